-- `origin_in` answers as the map does, since the bytes are its file.
use Rattle.std.proofs.Common.{subst, sym}
use Rattle.sourcemap.specs.AnyMap.{map_tree}
use Rattle.sourcemap_cache.specs.Compile.{IsCompiled}
use Rattle.sourcemap_cache.specs.declared.parts.WithContents.TheVariants.{No}
use Rattle.sourcemap_uses.proofs.CachingLemmas.{line_found}
use Rattle.sourcemap_uses.proofs.caching.line_by_compiling.Goals as goal

pub returns : goal.returns
returns c =
    let t = map_tree c.args.map.now in
    let is = subst (IsCompiled No t) (sym c.as_slice.ensures.value) c.in_ok-bytes.ensures.answer in
    line_found t (c.args.line, c.args.col) c.in-Ok.origin c.line_of.result (c.in-Ok.ensures No t is) c.line_of.ensures

pub unreachable-requires : goal.unreachable-requires
unreachable-requires c =
    let t = map_tree c.args.map.now in
    let is = subst (IsCompiled No t) (sym c.as_slice.ensures.value) c.in_ok-bytes.ensures.answer in
    c.in-Err.ensures No t is
