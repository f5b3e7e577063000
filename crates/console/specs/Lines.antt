-- A line of program text: a word in hex digits, or nothing, with a comment from `#` on.
-- Assumes nothing.
use Rattle.std.specs.Prelude.{ℕ, Bool, cond, ◌||◌, List, [], ◌∷◌, length, Some, None, Ok, Err, Option, Result, ◌==◌, nat_le}
use Rattle.std.specs.List.{before_first}
use Rattle.std.specs.Option.{unwrap_or}
use Rattle.std.specs.Str.Parse.{digits_value}
use Rattle.console.specs.declared.lines.WordFault.{WordFault}
use Rattle.console.specs.declared.lines.WordFault.TheVariants.{NotHex, TooWide, NoDigits as NoDigitsOfAWord}
use Rattle.console.specs.declared.digits.DigitsFault.{DigitsFault}
use Rattle.console.specs.declared.digits.DigitsFault.TheVariants.{NoDigits, NotADigit, TooLarge}
use Rattle.console.specs.Digits.{first_stranger, after_mark}

-- space, tab, CR
abbrev pub blank : ℕ → Bool
blank c = c == 32 || (c == 9 || c == 13)

-- what stands before the first b, or all of it where there is none
abbrev pub before : ℕ → List ℕ → List ℕ
before b bs = before_first (λ c. c == b) bs

-- what stands before the comment, which `#` begins
abbrev pub uncommented : List ℕ → List ℕ
uncommented bs = before 35 bs

abbrev pub trimmed_front : List ℕ → List ℕ
trimmed_front [] = []
trimmed_front (c ∷ cs) = cond (blank c) (trimmed_front cs) (c ∷ cs)

-- a byte before what is left of the bytes after it: a blank is dropped where nothing is left
abbrev pub before_kept : ℕ → List ℕ → List ℕ
before_kept c [] = cond (blank c) [] (c ∷ [])
before_kept c (d ∷ ds) = c ∷ d ∷ ds

abbrev pub trimmed_back : List ℕ → List ℕ
trimmed_back [] = []
trimmed_back (c ∷ cs) = before_kept c (trimmed_back cs)

-- the text of a line, without its comment and the blanks around it
abbrev pub line_text : List ℕ → List ℕ
line_text bs = trimmed_back (trimmed_front (uncommented bs))

abbrev pub word_fault : DigitsFault → WordFault
word_fault NoDigits = NoDigitsOfAWord
word_fault (NotADigit c) = NotHex c
word_fault TooLarge = TooWide

abbrev pub hex_or_fault : List ℕ → Option ℕ → Result ℕ WordFault
hex_or_fault ds (Some c) = Err (NotHex c)
hex_or_fault ds None = cond (nat_le (length ds) 8) (Ok (digits_value 16 ds)) (Err TooWide)

-- one to eight hex digits
abbrev pub hex_word : List ℕ → Result ℕ WordFault
hex_word [] = Err NoDigitsOfAWord
hex_word (d ∷ ds) = hex_or_fault (d ∷ ds) (first_stranger 16 (d ∷ ds))

abbrev pub some_word : Result ℕ WordFault → Result (Option ℕ) WordFault
some_word (Ok w) = Ok (Some w)
some_word (Err e) = Err e

-- a word, after an optional `0x`, or nothing
abbrev pub text_word : List ℕ → Result (Option ℕ) WordFault
text_word [] = Ok None
text_word (c ∷ cs) = some_word (hex_word (unwrap_or (after_mark (c ∷ cs)) (c ∷ cs)))

abbrev pub line_word : List ℕ → Result (Option ℕ) WordFault
line_word bs = text_word (line_text bs)
