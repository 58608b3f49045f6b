-- `Held` is `Send`.
use denote.Enum.Declared as enums
use denote.Param.Send.{IsSend, IsSync, enum_send, recorded_send, sendable}
use denote.Signature.{static_lft}
use Rattle.std.proofs.Crossing
use Rattle.std.proofs.MapsCrossing
use Rattle.std.proofs.alloc.Global.TheSendSync as heap
use Rattle.std_alloc.proofs.arc.Arc.TheSendSync as arcs
use Rattle.std_alloc.proofs.vec.Vec.TheSendSync as vecs
use Rattle.std_alloc.specs.contracts.arc.Arc
use Rattle.std_alloc.specs.contracts.vec.Vec
use Rattle.std_heap.proofs.GlobalAllocator.TheSendSync as frees
use Rattle.std_heap.specs.contracts.Global
use Rattle.std_heap.specs.contracts.GlobalAllocator.TheImpl
use Rattle.sourcemap_builder.proofs.builder.SourceMapBuilder.TheSendSync as builder
use Rattle.sourcemap_bundle_split.proofs.split.BundleSplitter.TheSendSync as splitter
use Rattle.sourcemap_bundles.proofs.ram_bundle.RamBundle.TheSendSync as bundle
use Rattle.sourcemap_bundles.specs.contracts.ram_bundle.RamBundle
use Rattle.sourcemap_c_handles.specs.contracts.report.CheckReport
use Rattle.sourcemap_headers.proofs.debug_id.DebugId.TheSendSync as id
use Rattle.sourcemap_index.proofs.family.DecodedMap.TheLaws.TheKnot as knot
use Rattle.sourcemap_index.specs.contracts.family.DecodedMap
use Rattle.sourcemap_index.specs.contracts.family.SourceMapSection
use Rattle.sourcemap_map_regular.proofs.map.SourceMap.TheSendSync as regular
use Rattle.sourcemap_source_views.proofs.sourceview.SourceView.TheSendSync as view
use Rattle.sourcemap_source_views.specs.contracts.sourceview.SourceView
use Rattle.sourcemap_c_handles.specs.contracts.held.Held

map_send : IsSend DecodedMap.the_row
map_send = search (regular.the_send, id.the_send, MapsCrossing.crosses, Crossing.crosses, knot.crosses, sendable) depth 60 fits 20000

map_sync : IsSync DecodedMap.the_row
map_sync = search (regular.the_sync, id.the_sync, MapsCrossing.crosses, Crossing.crosses, knot.crosses, sendable) depth 60 fits 20000

shared_send : IsSend (Arc.the_row DecodedMap.the_row Global.the_row TheImpl.ghosts)
shared_send = arcs.the_send DecodedMap.the_row Global.the_row TheImpl.ghosts map_send heap.the_send map_sync heap.the_sync frees.the_frees

view_send : IsSend (Arc.the_row SourceView.the_row Global.the_row TheImpl.ghosts)
view_send = arcs.the_send SourceView.the_row Global.the_row TheImpl.ghosts view.the_send heap.the_send view.the_sync heap.the_sync frees.the_frees

bundle_send : IsSend (Arc.the_row (RamBundle.the_row static_lft) Global.the_row TheImpl.ghosts)
bundle_send = arcs.the_send (RamBundle.the_row static_lft) Global.the_row TheImpl.ghosts (bundle.the_send static_lft) heap.the_send (bundle.the_sync static_lft) heap.the_sync frees.the_frees

section_send : IsSend SourceMapSection.the_row
section_send = search (regular.the_send, id.the_send, MapsCrossing.crosses, Crossing.crosses, knot.crosses, sendable) depth 60 fits 20000

sections_send : IsSend (Vec.the_row SourceMapSection.the_row Global.the_row TheImpl.ghosts)
sections_send = vecs.the_send SourceMapSection.the_row Global.the_row TheImpl.ghosts section_send heap.the_send frees.the_frees

report_send : IsSend (CheckReport.the_field).row
report_send = search (Crossing.crosses, sendable) depth 60 fits 20000

field_send : IsSend (Held.the_field).row
field_send = enum_send (enums.shape Held.the_type) ((shared_send, tt), ((builder.the_send, tt), ((view_send, tt), ((bundle_send, tt), ((splitter.the_field_send, tt), ((search (Crossing.crosses, sendable), tt), ((sections_send, tt), ((report_send, tt), tt))))))))

pub held_send : IsSend Held.the_row
held_send = recorded_send (Held.the_field).row _ _ (Held.the_type).to_one field_send
