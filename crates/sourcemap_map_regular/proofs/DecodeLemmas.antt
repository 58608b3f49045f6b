-- A record, its parts, and the map that it decodes to.
use Rattle.std.proofs.Common.{◌≡◌, length, Result, Ok, Err, Bool, true, false, sym, ap, subst, ◌∙◌, inl, inr, vec_len}
use Rattle.std.proofs.lemmas.List.{length-map}
use Rattle.std.specs.Bool.{MatchBool}
use Rattle.sourcemap_errors.specs.declared.errors.Error.{Error}
use Rattle.sourcemap_errors.specs.declared.errors.Error.TheVariants.{IncompatibleSourceMap}
use Rattle.sourcemap_tokens.specs.Tokens.{AllWithin}
use Rattle.sourcemap_records.specs.Jsontypes.{Fields, Tree, flat}
use Rattle.sourcemap_map_conversions.proofs.FromRecordLemmas.{TokensAnswer-same}
use Rattle.sourcemap_map_conversions.specs.FromRecord.{PartsAnswer}
use Rattle.sourcemap_map_conversions.specs.Parts.{PartsValue, parts_view}
use Rattle.sourcemap_map_conversions.specs.declared.parts.Parts.{Parts}
use Rattle.sourcemap_map_regular.specs.Map.{MapValue, IsWellFormed}
use Rattle.sourcemap_map_regular.specs.MapStored.{map_in}
use Rattle.sourcemap_map_regular.specs.Decode.{RecordDecodes, map_of, is_regular, RegularDecodes}

-- the record `r` determines the result of decoding `r`
pub RecordDecodes-same : (r : Fields) (a b : Result MapValue Error) → RecordDecodes r a → RecordDecodes r b → a ≡ b
RecordDecodes-same r (Ok m) (Ok n) h k =
    let same = TokensAnswer-same r (Ok m.tokens) (Ok n.tokens) h.1 k.1 in
    let tokens : m.tokens ≡ n.tokens = cc in
    ap Ok (h.2 ∙ ap (map_of r) tokens ∙ sym k.2)
RecordDecodes-same r (Ok m) (Err e) h (inl k) = absurd (k.0 h.0)
RecordDecodes-same r (Ok m) (Err e) h (inr k) = let same = TokensAnswer-same r (Ok m.tokens) (Err e) h.1 k.1 in cc
RecordDecodes-same r (Err e) (Ok m) (inl h) k = absurd (h.0 k.0)
RecordDecodes-same r (Err e) (Ok m) (inr h) k = let same = TokensAnswer-same r (Err e) (Ok m.tokens) h.1 k.1 in cc
RecordDecodes-same r (Err e) (Err f) (inl h) (inl k) = ap Err (h.1 ∙ sym k.1)
RecordDecodes-same r (Err e) (Err f) (inl h) (inr k) = absurd (h.0 k.0)
RecordDecodes-same r (Err e) (Err f) (inr h) (inl k) = absurd (k.0 h.0)
RecordDecodes-same r (Err e) (Err f) (inr h) (inr k) = let same = TokensAnswer-same r (Err e) (Err f) h.1 k.1 in cc

-- a record decodes to the map of its parts
pub decoded : (r : Fields) (p : PartsValue) (m : MapValue) → m ≡ map_in p → PartsAnswer r (Ok p)
    → RecordDecodes r (Ok m)
decoded r p m is h = subst (λ n. RecordDecodes r (Ok n)) (sym is) (h.0, h.1, ap map_in h.2)

pub decoded-well : (parts : Parts) (m : MapValue) → m ≡ map_in (parts_view parts)
    → AllWithin (length parts.sources.texts) (vec_len parts.names) parts.tokens → IsWellFormed m
decoded-well parts m is within =
    let names : vec_len parts.names ≡ length (parts_view parts).names = rw length-map parts.names.ok.0 in
    subst IsWellFormed (sym is) (subst (λ n. AllWithin (length parts.sources.texts) n parts.tokens) names within)

-- A record determines the result of decoding the record as a regular map.

regular_once : (t : Tree) (regular : Bool) (a b : Result MapValue Error)
    → MatchBool regular (RecordDecodes (flat t) a) (a ≡ Err IncompatibleSourceMap)
    → MatchBool regular (RecordDecodes (flat t) b) (b ≡ Err IncompatibleSourceMap) → a ≡ b
regular_once t true a b p q = RecordDecodes-same (flat t) a b p q
regular_once t false a b p q = p ∙ sym q

pub regular_decodes_once : (t : Tree) (a b : Result MapValue Error) → RegularDecodes t a → RegularDecodes t b → a ≡ b
regular_decodes_once t a b p q = regular_once t (is_regular t) a b p q
