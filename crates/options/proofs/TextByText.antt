-- The argument list, one text further.
-- Assumes nothing.
use Rattle.std.proofs.Common.{◌≡◌, ℕ, ◌+◌, ◌<◌, ◌≤◌, List, [], ◌∷◌, map, length, get_or, drop, Ok, Err, Option, sym, ap, ◌∙◌, arith}
use Rattle.std.proofs.lemmas.List.{drop-map, drop_more, drop_all, length-map}
use Rattle.options.specs.declared.arguments.Argument.{Argument}
use Rattle.options.specs.declared.arguments.OptionFault.{OptionFault}
use Rattle.options.specs.Settings.{Settings, taken, ended, settings_from, settings_in}

module _ {X : Type 0} (f : X → List ℕ) (xs : List X) (i : ℕ) where
  next_text : (x : X) (t : List ℕ) → i < length xs → x ≡ get_or xs i x → t ≡ f x → drop i (map f xs) ≡ t ∷ drop (i + 1) (map f xs)
  next_text x t h e is =
      drop-map f i xs
      ∙ ap (map f) (drop_more xs i x h)
      ∙ ap (λ y. f y ∷ map f (drop (i + 1) xs)) (sym e)
      ∙ ap (λ l. f x ∷ l) (sym (drop-map f (i + 1) xs))
      ∙ ap (λ u. u ∷ drop (i + 1) (map f xs)) (sym is)

  no_text : length xs ≤ i → drop i (map f xs) ≡ []
  no_text h = drop_all i (map f xs) (omega (arith, length-map xs f))

  module _ (s : Settings) (a : Option Argument) (inv : settings_from i (Ok (s, a)) (drop i (map f xs)) ≡ settings_in (map f xs)) where
    now_text : (x : X) (t : List ℕ) → i < length xs → x ≡ get_or xs i x → t ≡ f x → settings_from (i + 1) (taken a t s) (drop (i + 1) (map f xs)) ≡ settings_in (map f xs)
    now_text x t h e is = sym (ap (λ l. settings_from i (Ok (s, a)) l) (next_text x t h e is)) ∙ inv

    pub text_taken : (x : X) (t : List ℕ) → i < length xs → x ≡ get_or xs i x → t ≡ f x → (s' : Settings) (b : Option Argument) → taken a t s ≡ Ok (s', b) → settings_from (i + 1) (Ok (s', b)) (drop (i + 1) (map f xs)) ≡ settings_in (map f xs)
    text_taken x t h e is s' b k = sym (ap (λ r. settings_from (i + 1) r (drop (i + 1) (map f xs))) k) ∙ now_text x t h e is

    pub text_refused : (x : X) (t : List ℕ) → i < length xs → x ≡ get_or xs i x → t ≡ f x → (d : OptionFault) → taken a t s ≡ Err d → settings_in (map f xs) ≡ Err (record { place = i + 1; fault = d })
    text_refused x t h e is d k = sym (now_text x t h e is) ∙ ap (λ r. settings_from (i + 1) r (drop (i + 1) (map f xs))) k

    pub texts_ended : length xs ≤ i → settings_in (map f xs) ≡ ended i a s
    texts_ended h = sym inv ∙ ap (λ l. settings_from i (Ok (s, a)) l) (no_text h)
