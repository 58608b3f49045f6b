-- A list of values is read unchanged.
use Rattle.std.proofs.Common.{ap, Some, option_map}
use Rattle.serde_json.proofs.Views.{view-Array}
use Rattle.sourcemap_records.proofs.FieldLemmas.{any_items}
use Rattle.sourcemap_records.proofs.field.value_list.Goals as goal

pub returns-in-Array : goal.returns-in-Array
returns-in-Array c =
    rw (c.in-Array.is, view-Array c.in-Array.items) (ap (option_map Some) (any_items c.in-Array.items.items))
