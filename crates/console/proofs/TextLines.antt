-- Program text, one line further.
-- Assumes nothing.
use Rattle.std.proofs.Common.{◌≡◌, ℕ, ◌+◌, ◌<◌, ◌≤◌, eqb, List, [], ◌∷◌, ◌++◌, length, get_or, drop, Ok, Err, Result, sym, refl, ap, ◌∙◌, ◌⊎◌, inl, inr, ⊎_elim, append_assoc, append-nil, arith}
use native.Mathlib.Nat.{zero-add}
use Rattle.std.specs.List.{slice_split, onto_first, enumerate_from}
use Rattle.std.proofs.lemmas.List.{drop_more, drop_all}
use Rattle.std.proofs.lemmas.List.FromFn.{length-enumerate_from, get_or-enumerate_from}
use Rattle.std.proofs.lemmas.Bool.{cases_Bool}
use Rattle.console.specs.declared.program.ProgramFault.{ProgramFault}
use Rattle.console.specs.Lines.{line_word}
use Rattle.console.specs.ProgramText.{to_first_line, lines_of, words_of_line, and_then, words_from, program_words}

-- the parts between newlines
abbrev pub parts : List ℕ → List (List ℕ)
parts bs = slice_split (λ b. eqb b 10) bs

begun : (c : ℕ) (ls : List (List ℕ)) → onto_first c ls ≡ to_first_line c ls
begun c [] = refl
begun c (l ∷ ls) = refl

begun_last : (c : ℕ) (ls : List (List ℕ)) → (onto_first c (ls ++ [] ∷ []) ≡ to_first_line c ls) ⊎ (onto_first c (ls ++ [] ∷ []) ≡ to_first_line c ls ++ [] ∷ [])
begun_last c [] = inl refl
begun_last c (l ∷ ls) = inr refl

-- the parts are the lines, or the lines and an empty part
parts_or_more : (bs : List ℕ) → (parts bs ≡ lines_of bs) ⊎ (parts bs ≡ lines_of bs ++ [] ∷ [])
parts_or_more [] = inr refl
parts_or_more (c ∷ cs) = ⊎_elim
    (λ e. rw e (⊎_elim (λ s. inl (ap (λ ls. [] ∷ ls) s)) (λ s. inr (ap (λ ls. [] ∷ ls) s)) (parts_or_more cs)))
    (λ e. rw e
    (⊎_elim (λ s. inl (ap (onto_first c) s ∙ begun c (lines_of cs)))
    (λ s. ⊎_elim (λ t. inl (ap (onto_first c) s ∙ t)) (λ t. inr (ap (onto_first c) s ∙ t)) (begun_last c (lines_of cs)))
    (parts_or_more cs)))
    (cases_Bool (eqb c 10))

-- an empty line at the end has no word
no_more : (n : ℕ) (ls : List (List ℕ)) → words_from n (ls ++ [] ∷ []) ≡ words_from n ls
no_more n [] = refl
no_more n (l ∷ ls) = ap (and_then (words_of_line n (line_word l))) (no_more (n + 1) ls)

then_none : (r : Result (List ℕ) ProgramFault) → and_then (Ok []) r ≡ r
then_none (Ok vs) = refl
then_none (Err e) = refl

pub parts_begun : (bs : List ℕ) → and_then (Ok []) (words_from 1 (parts bs)) ≡ program_words bs
parts_begun bs =
    then_none (words_from 1 (parts bs)) ∙ ⊎_elim (λ e. ap (words_from 1) e) (λ e. ap (words_from 1) e ∙ no_more 1 (lines_of bs)) (parts_or_more bs)

then_assoc : (ws us : List ℕ) (r : Result (List ℕ) ProgramFault) → and_then (Ok ws) (and_then (Ok us) r) ≡ and_then (Ok (ws ++ us)) r
then_assoc ws us (Ok vs) = ap (λ l. Ok l) (sym (append_assoc ws us vs))
then_assoc ws us (Err e) = refl

-- line n with its number, as `enumerate` gives it
pub line_at : (ls : List (List ℕ)) (n i : ℕ) (line : List ℕ) → n < length (enumerate_from 0 ls) → ◌≡◌ {A = ℕ × List ℕ} (i, line) (get_or (enumerate_from 0 ls) n (i, line)) → (n < length ls) × (i ≡ n) × (line ≡ get_or ls n line)
line_at ls n i line h e =
    let k : n < length ls = omega (arith, length-enumerate_from 0 ls) in
    let at = e ∙ get_or-enumerate_from 0 ls n (i, line) k in
    (k, simp zero-add at (ap (λ p. p.0) at), ap (λ p. p.1) at)

module _ (text items : List ℕ) (n : ℕ) (line : List ℕ) (inv : and_then (Ok items) (words_from (n + 1) (drop n (parts text))) ≡ program_words text) where
  now_line : n < length (parts text) → line ≡ get_or (parts text) n line → and_then (Ok items) (and_then (words_of_line (n + 1) (line_word line)) (words_from (n + 1 + 1) (drop (n + 1) (parts text)))) ≡ program_words text
  now_line h is =
      ap (λ l. and_then (Ok items) (and_then (words_of_line (n + 1) (line_word l)) (words_from (n + 1 + 1) (drop (n + 1) (parts text))))) is
      ∙ sym (ap (λ ls. and_then (Ok items) (words_from (n + 1) ls)) (drop_more (parts text) n line h)) ∙ inv

  pub line_taken : n < length (parts text) → line ≡ get_or (parts text) n line → (ws more : List ℕ) → words_of_line (n + 1) (line_word line) ≡ Ok ws → more ≡ items ++ ws → and_then (Ok more) (words_from (n + 1 + 1) (drop (n + 1) (parts text))) ≡ program_words text
  line_taken h is ws more e m =
      ap (λ l. and_then (Ok l) (words_from (n + 1 + 1) (drop (n + 1) (parts text)))) m
      ∙ sym (then_assoc items ws (words_from (n + 1 + 1) (drop (n + 1) (parts text))))
      ∙ sym (ap (λ r. and_then (Ok items) (and_then r (words_from (n + 1 + 1) (drop (n + 1) (parts text))))) e)
      ∙ now_line h is

  pub line_refused : n < length (parts text) → line ≡ get_or (parts text) n line → (f : ProgramFault) → words_of_line (n + 1) (line_word line) ≡ Err f → program_words text ≡ Err f
  line_refused h is f e = sym (now_line h is) ∙ ap (λ r. and_then (Ok items) (and_then r (words_from (n + 1 + 1) (drop (n + 1) (parts text))))) e

  pub all_taken : length (parts text) ≤ n → program_words text ≡ Ok items
  all_taken h = sym inv ∙ ap (λ ls. and_then (Ok items) (words_from (n + 1) ls)) (drop_all n (parts text) h) ∙ ap (λ l. Ok l) (append-nil items)
