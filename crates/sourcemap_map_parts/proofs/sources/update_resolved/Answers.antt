use Rattle.std.proofs.Common.{◌≡◌, map, length, string_bytes, ap, arith}
use Rattle.std.proofs.lemmas.List.{length-map}
use Rattle.sourcemap_texts.specs.Texts.{texts_of}
use Rattle.sourcemap_map_parts.specs.Sources.{resolved_against}
use Rattle.sourcemap_map_parts.proofs.SourcesLemmas.{resolved_if_none, resolved_after_set}
use Rattle.sourcemap_map_parts.proofs.sources.update_resolved.Goals as goal
use Rattle.sourcemap_map_parts.proofs.sources.update_resolved.Goals.{in-Some, in-None+in_ok-texts-in-None+in-Some-1}
use Rattle.sourcemap_map_parts.proofs.sources.update_resolved.Goals.{in-None+in_ok-texts-in-None+in-None-1}

pub returns-then-is_empty-is_none-clause-ok : goal.returns-then-is_empty-is_none-clause-ok
returns-then-is_empty-is_none-clause-ok c = λ changed e.
    resolved_if_none c.args.root.now c.args.resolved_list.now c.is_none.result changed
    (rw (← c.is_empty.ensures) c.if-is_empty-is_none.true) c.is_none.ensures

pub put_text-requires : goal.put_text-requires
put_text-requires c =
    let h : texts_of c.in-Some.texts ≡ map (resolved_against c.args.root.now) (map string_bytes c.args.sources.now) =
    c.requires.resolved c.in-Some.texts c.in-Some.is in
    omega (arith, simp length-map at (ap length h), c.requires.within, c.in-Some.texts.ok)

pub returns-clause-ok : goal.returns-clause-ok
returns-clause-ok c = λ changed e.
    let text : string_bytes c.in_ok-text.text ≡ resolved_against c.args.root.now c.args.source.now =
    cc c.in_ok-text.ensures in
    let sources = map string_bytes c.args.sources.now in
    elim c.match-resolved_list.branch [
      | in-Some w ↦
          let old : texts_of w.in-Some.texts ≡ map (resolved_against c.args.root.now) sources =
          c.requires.resolved w.in-Some.texts w.in-Some.is in
          rw w.resolved_list-is
          (resolved_after_set c.args.root.now c.args.source.now _ sources _ _ _ c.args.id old w.put_text.ensures text e)
      | in-None+in_ok-texts-in-None+in-Some-1 w ↦
          let old : texts_of w.in_ok-texts-in-None.texts ≡ map (resolved_against c.args.root.now) sources =
          cc w.in_ok-texts-in-None.ensures in
          rw w.resolved_list-is (resolved_after_set c.args.root.now c.args.source.now _ sources _ _ _ c.args.id old
          w.put_text-in-None.ensures text e)
      | in-None+in_ok-texts-in-None+in-None-1 w ↦
          let old : texts_of w.in_ok-texts-in-None.texts ≡ map (resolved_against c.args.root.now) sources =
          cc w.in_ok-texts-in-None.ensures in
          rw w.resolved_list-is (resolved_after_set c.args.root.now c.args.source.now _ sources _ _ _ c.args.id old
          w.put_text-in-None.ensures text e)
    ]
