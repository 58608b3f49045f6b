-- What the parts of a compiled map say.
use Rattle.std.specs.Prelude.{ℕ, ◌+◌, ◌-◌, ◌==◌, if◌then◌else◌, List, min, slice_index, Option, None, option_map, Ok}
use Rattle.sourcemap_tokens.specs.Items.{item_at}
use Rattle.sourcemap_tokens.specs.Tokens.{closest_token}
use Rattle.sourcemap_compose.specs.Moved.{distance}
use Rattle.sourcemap_compiled.specs.Lookup.{CompiledMeaning}
use Rattle.sourcemap_compiled_write.specs.Parts.{Parts}

-- the scope of the token with this index
abbrev pub scope_in : Parts → (index : ℕ) → Option (List ℕ)
scope_in p index =
    let number = slice_index p.scopes index in if number == 0 then None else item_at p.scope_names (number - 1)

-- the meaning of a generated position: what the closest token says of it
abbrev pub parts_meaning : Parts → ℕ × ℕ → Option CompiledMeaning
parts_meaning p position = option_map
    (λ found. record {
      source = Ok (item_at p.sources found.1.src_id);
      line = found.1.src_line;
      column = min (found.1.src_col + distance found.1 position) 4294967295;
      name = Ok (item_at p.names found.1.name_id);
      scope = Ok (scope_in p found.0);
      is_range = found.1.is_range;
    })
    (closest_token p.tokens position)
