-- Let `m` be a regular map or a Hermes map. Decoding as a map of any kind gives `m` exactly if decoding as the kind of
-- `m` gives `m`.
use Rattle.std.proofs.Common.{◌≡◌, refl, sym, subst, inl, inr, ℕ, List, Bool, true, false, nat_lt, Option, Some, None, is_none, MatchOption, Result, Ok, Err, ◌↔◌}
use Rattle.std.specs.Bool.{MatchBool}
use Rattle.serde_json.specs.Data.{Data}
use Rattle.sourcemap_errors.specs.declared.errors.Error.{Error}
use Rattle.sourcemap_errors.specs.declared.errors.Error.TheVariants.{BadJson, IncompatibleSourceMap}
use Rattle.sourcemap_errors.specs.declared.errors.JsonFault.TheVariants.{Shape}
use Rattle.sourcemap_records.specs.Bytes.{ValueHasResult, BytesHaveResult, UrlHasResult}
use Rattle.sourcemap_records.specs.Jsontypes.{Fields, Tree, plain, indexed, Sections, record_of}
use Rattle.sourcemap_map_regular.specs.Decode.{RecordDecodes, RegularDecodes}
use Rattle.sourcemap_map_regular.specs.Map.{MapValue}
use Rattle.sourcemap_hermes_scopes.specs.ScopeLists.{ScopeEntry}
use Rattle.sourcemap_hermes.specs.Decode.{DecodesWith, EntriesDecode, RecordDecodesAsHermes}
use Rattle.sourcemap_hermes.specs.Map.{HermesValue}
use Rattle.sourcemap_index_model.specs.Decode.{Then, LeafDecodes, TreeDecodes, SectionsDecode, count, index_of}
use Rattle.sourcemap_index_model.specs.MapTree.{LeafMap, regular, hermes, leaf}
use Rattle.sourcemap_index.specs.Decode.{ValueDecodes, BytesDecode, UrlDecodes}

no_index : (many : Bool) (fields : Fields) (sections : Sections) (l : LeafMap)
    → MatchBool many (Ok (leaf l) ≡ Err IncompatibleSourceMap)
    (Then (λ a. SectionsDecode sections a) (λ ss a. a ≡ Ok (index_of fields ss)) (Ok (leaf l))) → ⊥
no_index true fields sections l h = cc
no_index false fields sections l (inl (ss, decodes, is)) = cc
no_index false fields sections l (inr h) = h

-- Regular maps.

regular_inside : (a b : MapValue) → leaf (regular a) ≡ leaf (regular b) → a ≡ b
regular_inside a b is = cc

regular_leaf : (fields : Fields) (scopes : Option (List ScopeEntry)) (m : MapValue)
    → MatchBool (is_none scopes) (RecordDecodes fields (Ok m)) (Ok m ≡ Err IncompatibleSourceMap)
    → LeafDecodes fields scopes (Ok (leaf (regular m)))
regular_leaf fields None m h = inl (m, h, refl)
regular_leaf fields (Some entries) m h = absurd cc

leaf_regular : (fields : Fields) (scopes : Option (List ScopeEntry)) (m : MapValue)
    → LeafDecodes fields scopes (Ok (leaf (regular m)))
    → MatchBool (is_none scopes) (RecordDecodes fields (Ok m)) (Ok m ≡ Err IncompatibleSourceMap)
leaf_regular fields None m (inl (n, h, is)) =
    let same : leaf (regular m) ≡ leaf (regular n) = cc in
    subst (λ n. RecordDecodes fields (Ok n)) (sym (regular_inside m n same)) h
leaf_regular fields None m (inr h) = absurd h
leaf_regular fields (Some entries) m (inl (n, h, is)) = absurd cc
leaf_regular fields (Some entries) m (inr h) = absurd h

pub any_of_regular : (t : Tree) (m : MapValue) → RegularDecodes t (Ok m) → TreeDecodes t (Ok (leaf (regular m)))
any_of_regular (plain fields) m h = regular_leaf fields fields.x_facebook_sources m h
any_of_regular (indexed fields sections) m h = absurd cc

pub regular_of_any : (t : Tree) (m : MapValue) → TreeDecodes t (Ok (leaf (regular m))) → RegularDecodes t (Ok m)
regular_of_any (plain fields) m h = leaf_regular fields fields.x_facebook_sources m h
regular_of_any (indexed fields sections) m h =
    absurd (no_index (nat_lt 4294967295 (count sections)) fields sections (regular m) h)

-- Hermes maps.

hermes_inside : (a b : HermesValue) → leaf (hermes a) ≡ leaf (hermes b) → a ≡ b
hermes_inside a b is = cc

hermes_leaf : (fields : Fields) (scopes : Option (List ScopeEntry)) (h : HermesValue) → DecodesWith fields scopes (Ok h)
    → LeafDecodes fields scopes (Ok (leaf (hermes h)))
hermes_leaf fields None h k = absurd cc
hermes_leaf fields (Some entries) h k = inl (h, k, refl)

leaf_hermes : (fields : Fields) (scopes : Option (List ScopeEntry)) (h : HermesValue)
    → LeafDecodes fields scopes (Ok (leaf (hermes h))) → DecodesWith fields scopes (Ok h)
leaf_hermes fields None h (inl (n, k, is)) = absurd cc
leaf_hermes fields None h (inr k) = absurd k
leaf_hermes fields (Some entries) h (inl (n, k, is)) =
    let same : leaf (hermes h) ≡ leaf (hermes n) = cc in
    subst (λ n. EntriesDecode fields entries (Ok n)) (sym (hermes_inside h n same)) k
leaf_hermes fields (Some entries) h (inr k) = absurd k

pub any_of_hermes : (t : Tree) (h : HermesValue) → RecordDecodesAsHermes t (Ok h) → TreeDecodes t (Ok (leaf (hermes h)))
any_of_hermes (plain fields) h k = hermes_leaf fields fields.x_facebook_sources h k
any_of_hermes (indexed fields sections) h k = absurd cc

pub hermes_of_any : (t : Tree) (h : HermesValue) → TreeDecodes t (Ok (leaf (hermes h))) → RecordDecodesAsHermes t (Ok h)
hermes_of_any (plain fields) h k = leaf_hermes fields fields.x_facebook_sources h k
hermes_of_any (indexed fields sections) h k =
    absurd (no_index (nat_lt 4294967295 (count sections)) fields sections (hermes h) k)

-- By the premises, a record decodes to `x` as a map of any kind exactly if it decodes to `x` by `Decodes`. The same
-- then holds for JSON values, bytes and data URLs.

module _ {X : Type 0} (kind : X → LeafMap) (Decodes : Tree → Result X Error → Type 0)
    (as_any : (t : Tree) (x : X) → Decodes t (Ok x) → TreeDecodes t (Ok (leaf (kind x))))
    (as_own : (t : Tree) (x : X) → TreeDecodes t (Ok (leaf (kind x))) → Decodes t (Ok x)) where
  value_any : (found : Option Tree) (x : X) → MatchOption found (Ok x ≡ Err (BadJson Shape)) (λ t. Decodes t (Ok x))
      → MatchOption found (Ok (leaf (kind x)) ≡ Err (BadJson Shape)) (λ t. TreeDecodes t (Ok (leaf (kind x))))
  value_any None x h = absurd cc
  value_any (Some t) x h = as_any t x h

  value_own : (found : Option Tree) (x : X)
      → MatchOption found (Ok (leaf (kind x)) ≡ Err (BadJson Shape)) (λ t. TreeDecodes t (Ok (leaf (kind x))))
      → MatchOption found (Ok x ≡ Err (BadJson Shape)) (λ t. Decodes t (Ok x))
  value_own None x h = absurd cc
  value_own (Some t) x h = as_own t x h

  pub values_of : (d : Data) (x : X) → ValueHasResult Decodes d (Ok x) ↔ ValueDecodes d (Ok (leaf (kind x)))
  values_of d x = (value_any (record_of d) x, value_own (record_of d) x)

  bytes_any : (bytes : List ℕ) (x : X) → BytesHaveResult Decodes bytes (Ok x) → BytesDecode bytes (Ok (leaf (kind x)))
  bytes_any bytes x (inl (d, holds, h)) = inl (d, holds, (values_of d x).0 h)
  bytes_any bytes x (inr h) = absurd h

  bytes_own : (bytes : List ℕ) (x : X) → BytesDecode bytes (Ok (leaf (kind x))) → BytesHaveResult Decodes bytes (Ok x)
  bytes_own bytes x (inl (d, holds, h)) = inl (d, holds, (values_of d x).1 h)
  bytes_own bytes x (inr h) = absurd h

  pub bytes_of : (bytes : List ℕ) (x : X)
      → BytesHaveResult Decodes bytes (Ok x) ↔ BytesDecode bytes (Ok (leaf (kind x)))
  bytes_of bytes x = (bytes_any bytes x, bytes_own bytes x)

  url_any : (url : List ℕ) (x : X) → UrlHasResult Decodes url (Ok x) → UrlDecodes url (Ok (leaf (kind x)))
  url_any url x (inl (bytes, holds, h)) = inl (bytes, holds, bytes_any bytes x h)
  url_any url x (inr h) = absurd (let no = h.0 in cc)

  url_own : (url : List ℕ) (x : X) → UrlDecodes url (Ok (leaf (kind x))) → UrlHasResult Decodes url (Ok x)
  url_own url x (inl (bytes, holds, h)) = inl (bytes, holds, bytes_own bytes x h)
  url_own url x (inr h) = absurd (let no = h.0 in cc)

  pub urls_of : (url : List ℕ) (x : X) → UrlHasResult Decodes url (Ok x) ↔ UrlDecodes url (Ok (leaf (kind x)))
  urls_of url x = (url_any url x, url_own url x)
