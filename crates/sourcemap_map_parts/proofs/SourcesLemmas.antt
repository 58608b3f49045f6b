-- Sources resolved against a root, also after one of them is set.
use Rattle.std.proofs.Common.{◌≡◌, ◌==◌, ℕ, ◌-◌, ◌≤◌, List, [], ◌∷◌, length, take, codes, Bool, true, false, ◌&&◌, not}
use Rattle.std.proofs.Common.{is_some, Vec, Option, Some, None, unwrap_or, slice_set, String, refl, sym, ap, ◌∙◌, arith}
use Rattle.std.proofs.Common.{nat_eq, map}
use Rattle.std.specs.declared.alloc.Global.{Global}
use Rattle.std.specs.Str.Pattern.{FindsTextSuffix, StripsSuffix}
use Rattle.std.specs.Str.{IsCharBoundary}
use Rattle.std.specs.List.{ends_with}
use Rattle.std.proofs.lemmas.List.{map-set}
use Rattle.std.proofs.lemmas.Str.Pattern.{ends_text}
use Rattle.std.proofs.lemmas.Bool.{and_parts}
use Rattle.sourcemap_texts.specs.Texts.{texts_of}
use Rattle.sourcemap_map_parts.specs.Sources.{without_slash, resolved_against}

pub without_slash_none : (s : List ℕ) → FindsTextSuffix (codes "/") s None → without_slash s ≡ s
without_slash_none s h = rw (← ends_text false (codes "/") s h)

pub without_slash_some : (s x : List ℕ) → StripsSuffix (FindsTextSuffix (codes "/")) s x → x ≡ without_slash s
without_slash_some s x h =
    let bound : h.0 ≤ length s = omega arith in
    let here : IsCharBoundary s (length s - h.0) = rw h.1.0 h.1.2 in
    let ends : ends_with nat_eq s (codes "/") ≡ true = sym (ends_text true (codes "/") s (h.0, h.1, bound, here)) in
    rw ends (h.2 ∙ ap (λ n. take (length s - n) s) h.1.0)

pub map-resolved_against_nothing : (root : List ℕ) (sources : List (List ℕ)) → (length root == 0) ≡ true
    → map (resolved_against root) sources ≡ sources
map-resolved_against_nothing root [] e = refl
map-resolved_against_nothing root (s ∷ ss) e =
    let here : resolved_against root s ≡ s = rw e refl in
    let rest : map (resolved_against root) ss ≡ ss = map-resolved_against_nothing root ss e in cc

pub resolved_if_none : (root : List ℕ) (rooted : Option (Vec (String Global) Global)) (none : Bool)
    (changed : Vec (String Global) Global) → ((length root == 0) && none) ≡ true → is_some rooted ≡ not none
    → texts_of (unwrap_or rooted changed) ≡ map (resolved_against root) (texts_of changed)
resolved_if_none root None none changed e f =
    sym (map-resolved_against_nothing root (texts_of changed) (and_parts (length root == 0) none e).0)
resolved_if_none root (Some texts) true changed e f = cc
resolved_if_none root (Some texts) false changed e f = let no : false ≡ true =
    (and_parts (length root == 0) false e).1 in cc

pub resolved_after_set : (root source text : List ℕ) (sources old new changed : List (List ℕ)) (id : ℕ)
    → old ≡ map (resolved_against root) sources
    → new ≡ slice_set old id text → text ≡ resolved_against root source → changed ≡ slice_set sources id source
    → new ≡ map (resolved_against root) changed
resolved_after_set root source text sources old new changed id e f g h = rw (h, map-set, f, e, g) refl
