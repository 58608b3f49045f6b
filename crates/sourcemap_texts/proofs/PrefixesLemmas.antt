-- Prefixes that are stripped.
use Rattle.std.proofs.Common.{◌≡◌, ℕ, List, [], ◌∷◌, ◌++◌, length, drop, codes, nat_eq, true, false, ◌&&◌}
use Rattle.std.proofs.Common.{if◌then◌else◌, Option, Some, None, option_and_then, refl, sym, ap, ◌∙◌, Bor, MatchOption}
use Rattle.std.specs.List.{starts_with, ends_with}
use Rattle.std.specs.Option.{option_copied}
use Rattle.std.specs.Str.Pattern.{FindsTextPrefix, StripsPrefix}
use Rattle.std.proofs.lemmas.Str.Pattern.{starts_text}
use Rattle.sourcemap_texts.specs.Prefixes.{with_slash}

-- the text after a prefix; `None` if the text does not start with the prefix
abbrev pub stripped : List ℕ → List ℕ → Option (List ℕ)
stripped prefix text = if starts_with nat_eq text prefix then Some (drop (length prefix) text) else None

-- a concatenated prefix is stripped part by part
pub stripped-append : (p q t : List ℕ) → stripped (p ++ q) t ≡ option_and_then (stripped q) (stripped p t)
stripped-append [] q t = refl
stripped-append (x ∷ p) q [] = refl
stripped-append (x ∷ p) q (y ∷ t) =
    elim (nat_eq x y) as (λ b. (if b && starts_with nat_eq t (p ++ q) then Some (drop (length (p ++ q)) t) else None)
    ≡ option_and_then (stripped q) (if b && starts_with nat_eq t p then Some (drop (length p) t) else None))
    [ true ↦ stripped-append p q t | false ↦ refl ]

pub strips : (p t : List ℕ) (r : Option (Bor (List ℕ)))
    → MatchOption r (FindsTextPrefix p t None) (λ x. StripsPrefix (FindsTextPrefix p) t x.now)
    → option_copied r ≡ stripped p t
strips p t None h = let no : false ≡ starts_with nat_eq t p = starts_text false p t h in rw (← no) refl
strips p t (Some x) (n, (is, split, bound), rest, many) =
    let starts : true ≡ starts_with nat_eq t p = starts_text true p t (n, (is, split, bound), rw is bound) in
    rw (← starts) (ap Some (rest ∙ ap (λ k. drop k t) is))

-- to strip `with_slash p`, strip `p` first. Then, if `p` does not end with a slash, strip a slash from the rest
pub stripped-with_slash : (p t : List ℕ) → stripped (with_slash p) t
    ≡ option_and_then (λ rest. if ends_with nat_eq p (codes "/") then Some rest else stripped (codes "/") rest)
    (stripped p t)
stripped-with_slash p t =
    elim (ends_with nat_eq p (codes "/")) as (λ b. stripped (if b then p else p ++ codes "/") t
    ≡ option_and_then (λ rest. if b then Some rest else stripped (codes "/") rest) (stripped p t))
    [ true ↦ sym (same (stripped p t)) | false ↦ stripped-append p (codes "/") t ] where
      same : (o : Option (List ℕ)) → option_and_then (λ rest. Some rest) o ≡ o
      same None = refl
      same (Some rest) = refl
