-- A record decodes to at most one result, a map or an error.
use Rattle.std.proofs.Common.{◌≡◌, sym, ap, subst, ◌∙◌, List, ◌∷◌, Bool, true, false, Option, Some, None, nat_lt, Result, Ok, Err, inl, inr}
use Rattle.std.specs.Bool.{MatchBool}
use Rattle.sourcemap_errors.specs.declared.errors.Error.{Error}
use Rattle.sourcemap_errors.specs.declared.errors.Error.TheVariants.{IncompatibleSourceMap}
use Rattle.sourcemap_records.specs.Jsontypes.{Fields, Tree, plain, indexed, Sections, no_more, bare, mapped}
use Rattle.sourcemap_map_regular.proofs.DecodeLemmas.{RecordDecodes-same}
use Rattle.sourcemap_map_regular.specs.Decode.{RecordDecodes}
use Rattle.sourcemap_hermes_scopes.specs.ScopeLists.{ScopeEntry}
use Rattle.sourcemap_hermes.proofs.DecodeLemmas.{EntriesDecode-same}
use Rattle.sourcemap_hermes.specs.Decode.{EntriesDecode}
use Rattle.sourcemap_index_model.specs.Decode.{Then, LeafDecodes, TreeDecodes, SectionsDecode, count, index_of}
use Rattle.sourcemap_index_model.specs.MapTree.{regular, hermes, MapTree, leaf, MapSection}

once : {Y : Type 0} (y : Result Y Error) (a b : Result Y Error) → a ≡ y → b ≡ y → a ≡ b
once y a b h k = h ∙ sym k

then_once : {X Y : Type 0} (First : Result X Error → Type 0) (Next : X → Result Y Error → Type 0)
    → ((a b : Result X Error) → First a → First b → a ≡ b)
    → ((x : X) (a b : Result Y Error) → Next x a → Next x b → a ≡ b)
    → (a b : Result Y Error) → Then First Next a → Then First Next b → a ≡ b
then_once First Next first next a b (inl (x, f, n)) (inl (y, g, k)) =
    let results = first (Ok x) (Ok y) f g in
    let same : x ≡ y = cc in
    next y a b (subst (λ z. Next z a) same n) k
then_once First Next first next a (Ok y) (inl (x, f, n)) (inr e) = absurd e
then_once First Next first next a (Err y) (inl (x, f, n)) (inr e) = let results = first (Ok x) (Err y) f e in cc
then_once First Next first next (Ok x) b (inr e) k = absurd e
then_once First Next first next (Err x) b (inr e) (inl (y, g, k)) = let results = first (Err x) (Ok y) e g in cc
then_once First Next first next (Err x) (Ok y) (inr e) (inr k) = absurd k
then_once {X} {Y} First Next first next (Err x) (Err y) (inr e) (inr k) =
    let results = first (Err x) (Err y) e k in
    let same : x ≡ y = cc in
    ap Err same

many_or_once : (many : Bool) (Few : Result MapTree Error → Type 0)
    → ((a b : Result MapTree Error) → Few a → Few b → a ≡ b)
    → (a b : Result MapTree Error) → MatchBool many (a ≡ Err IncompatibleSourceMap) (Few a)
    → MatchBool many (b ≡ Err IncompatibleSourceMap) (Few b) → a ≡ b
many_or_once true Few few a b h k = h ∙ sym k
many_or_once false Few few a b h k = few a b h k

leaf_decodes_once : (r : Fields) (scopes : Option (List ScopeEntry)) (a b : Result MapTree Error)
    → LeafDecodes r scopes a → LeafDecodes r scopes b → a ≡ b
leaf_decodes_once r None a b h k =
    then_once (RecordDecodes r) (λ m a. a ≡ Ok (leaf (regular m))) (RecordDecodes-same r)
    (λ m. once (Ok (leaf (regular m)))) a b h k
leaf_decodes_once r (Some entries) a b h k =
    then_once (EntriesDecode r entries) (λ m a. a ≡ Ok (leaf (hermes m))) (EntriesDecode-same r entries)
    (λ m. once (Ok (leaf (hermes m)))) a b h k

mutual
  pub tree_decodes_once : (r : Tree) (a b : Result MapTree Error) → TreeDecodes r a → TreeDecodes r b → a ≡ b
  tree_decodes_once (plain fields) a b h k = leaf_decodes_once fields fields.x_facebook_sources a b h k
  tree_decodes_once (indexed fields sections) a b h k =
      many_or_once (nat_lt 4294967295 (count sections))
      (Then (λ a. SectionsDecode sections a) (λ ss a. a ≡ Ok (index_of fields ss)))
      (then_once (λ a. SectionsDecode sections a) (λ ss a. a ≡ Ok (index_of fields ss))
      (λ a b. sections_decode_once sections a b) (λ ss. once (Ok (index_of fields ss))))
      a b h k

  sections_decode_once : (ss : Sections) (a b : Result (List MapSection) Error) → SectionsDecode ss a
      → SectionsDecode ss b → a ≡ b
  sections_decode_once no_more a b h k = h ∙ sym k
  sections_decode_once (bare head rest) a b h k =
      then_once (λ a. SectionsDecode rest a) (λ ss a. a ≡ Ok (record { head = head; map = None } ∷ ss))
      (λ a b. sections_decode_once rest a b) (λ ss. once (Ok (record { head = head; map = None } ∷ ss))) a b h k
  sections_decode_once (mapped head t rest) a b h k =
      then_once (λ a. TreeDecodes t a)
      (λ m a. Then (λ b. SectionsDecode rest b) (λ ss b. b ≡ Ok (record { head = head; map = Some m } ∷ ss)) a)
      (λ a b. tree_decodes_once t a b)
      (λ m. then_once (λ b. SectionsDecode rest b) (λ ss b. b ≡ Ok (record { head = head; map = Some m } ∷ ss))
      (λ a b. sections_decode_once rest a b) (λ ss. once (Ok (record { head = head; map = Some m } ∷ ss))))
      a b h k
