use Rattle.std.proofs.Common.{◌≡◌, ◌∙◌, sym, ap, List, Result, Ok, Some, option_map, inl, [], Option, ℕ}
use Rattle.sourcemap_errors.specs.declared.errors.Error.{Error}
use Rattle.sourcemap_index.specs.Family.{index_value}
use Rattle.sourcemap_map_regular.specs.Map.{MapValue}
use Rattle.sourcemap_bundle_split.specs.Split.{SplitValue, with_offsets}
use Rattle.sourcemap_bundle_split.proofs.split.BundleSplitter.new.Goals as goal

pub returns-clause-answer : goal.returns-clause-answer
returns-clause-answer c =
    let flat : MapValue = c.in_ok-flat.flat in
    let same_flat : c.in_ok-maps.maps ≡ flat = (let held = c.in_ok-maps.ensures in cc) in
    let offsets : (index_value c.args.map.now).parts.x_facebook_offsets ≡ Some c.in_ok-offsets-2.offsets.items =
    sym c.x_facebook_offsets.ensures ∙ ap (option_map (λ xs. xs.now)) c.in_ok-offsets.ensures.ok_part
    ∙ ap Some (sym c.in_ok-offsets-2.ensures.items) in
    let split : MapValue → Result SplitValue Error =
    λ flat. Ok (record { flat = flat; offsets = c.in_ok-offsets-2.offsets.items; modules = [] }) in
    inl (flat, c.in_ok-flat.ensures.answer, ap split same_flat ∙ sym (ap (with_offsets flat []) offsets))
