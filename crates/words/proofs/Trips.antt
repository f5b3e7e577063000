-- A word that reads is what its instruction writes, and an instruction that is written reads back.
-- Assumes nothing.
use Rattle.std.proofs.Common.{◌≡◌, ℕ, ◌^◌, ◌<◌, Bool, true, false, cond, Some, None, Ok, Err, Option, sym, refl, ap, ◌∙◌, arith, w32, SFits, of_z}
use Rattle.isa.specs.declared.instruction.Instruction.{Instruction}
use Rattle.isa.specs.declared.operation.Operation.{Operation}
use Rattle.words.specs.Fields.{cut, joined}
use Rattle.words.specs.Table.{row_of, chosen}
use Rattle.words.specs.Formats.{taken, lay_of, registers_fit, immediate_fits}
use Rattle.refusal.specs.declared.WriteFault.TheVariants.{BadRegister, BadImmediate}
use Rattle.words.specs.Words.{read_as, read_word, write_word, OneWord, OneInstruction}
use Rattle.words.proofs.Cut.{joined-cut, whole-cut, cut-joined}
use Rattle.words.proofs.Laid.{lay_held, registers-held, immediate_held}
use Rattle.words.proofs.Held.{held-laid}
use Rattle.words.proofs.Chosen.{chosen-fits, sound, lay_whole}

-- what a chosen row holds of a word is written as the word
chosen-writes : (w : ℕ) (o : Operation) → w < 2 ^ 32 → chosen (cut w) ≡ Some o → write_word (taken o (cut w)) ≡ Ok w
chosen-writes w o h e =
    let p = cut w in
    let f = (row_of o).format in
    let a = registers-held f o p (whole-cut w h) in
    let b = immediate_held f p (whole-cut w h) in
    let d : lay_of (row_of o) (taken o p) ≡ p = lay_held f (row_of o) o p (whole-cut w h) (chosen-fits p o e) in
    simp (a, b, d, joined-cut)

-- what is read was chosen
read_cases : (x : Option Operation) (w : ℕ) (i : Instruction) → read_as x w ≡ Ok i
    → (o : Operation) × (x ≡ Some o) × (i ≡ taken o (cut w))
read_cases (Some o) w i e = (o, refl, (cc))
read_cases None w i e = let z : ◌≡◌ {A = ℕ} 0 1 = cc in absurd (omega arith)

pub read_back : (w : ℕ) (i : Instruction) → w < 2 ^ 32 → read_word w ≡ Ok i → write_word i ≡ Ok w
read_back w i h e = let s = read_cases (chosen (cut w)) w i e in ap write_word s.2 ∙ chosen-writes w s.0 h s.1

pub one_word : (w : ℕ) (i : Instruction) → w < 2 ^ 32 → read_word w ≡ Ok i → OneWord w i
one_word w i h e v l r = let p = read_back w i h e in let q = read_back v i l r in cc

-- an instruction that fits reads back from the word that is laid out for it
fitting_reads : (i : Instruction) → SFits w32 i.immediate → registers_fit (row_of i.operation).format i ≡ true
    → immediate_fits (row_of i.operation).format i.immediate ≡ true → read_word (joined (lay_of (row_of i.operation) i)) ≡ Ok i
fitting_reads i t r m =
    let k = row_of i.operation in
    let u = of_z w32 i.immediate in
    let w = joined (lay_of k i) in
    let a : cut w ≡ lay_of k i = cut-joined (lay_of k i) (lay_whole i.operation i u r) in
    let b : chosen (cut w) ≡ Some i.operation = ap chosen a ∙ (sound i.operation).found i u in
    ap (λ o. read_as o w) b ∙ ap (λ p. Ok (taken i.operation p)) a ∙ ap Ok (held-laid k.format k i t r m)

-- what is written fits
write_cases : (r m : Bool) (v w : ℕ) → cond r (cond m (Ok v) (Err BadImmediate)) (Err BadRegister) ≡ Ok w
    → (r ≡ true) × (m ≡ true) × (v ≡ w)
write_cases true true v w e = (refl, refl, (cc))
write_cases true false v w e = let z : ◌≡◌ {A = ℕ} 0 1 = cc in absurd (omega arith)
write_cases false m v w e = let z : ◌≡◌ {A = ℕ} 0 1 = cc in absurd (omega arith)

pub write_back : (i : Instruction) (w : ℕ) → SFits w32 i.immediate → write_word i ≡ Ok w → read_word w ≡ Ok i
write_back i w t e =
    let k = row_of i.operation in
    let s = write_cases (registers_fit k.format i) (immediate_fits k.format i.immediate) (joined (lay_of k i)) w e in
    ap read_word (sym s.2) ∙ fitting_reads i t s.0 s.1

pub one_instruction : (i : Instruction) (w : ℕ) → SFits w32 i.immediate → write_word i ≡ Ok w → OneInstruction i w
one_instruction i w t e j u r = let p = write_back i w t e in let q = write_back j w u r in cc
