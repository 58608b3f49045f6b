use Rattle.std.proofs.Common.{◌≡◌, ℕ, false, List, length, map, get_or, replicate, string_bytes, refl, ap, sym, ◌∙◌}
use Rattle.std.specs.declared.alloc.Global.{Global}
use Rattle.std.proofs.lemmas.List.{length-map}
use Rattle.sourcemap_tokens.specs.declared.tokens.RawToken.{RawToken}
use Rattle.sourcemap_map_rewrite.specs.Numbering.{numbered_with}
use Rattle.sourcemap_map_rewrite.proofs.NumberingLemmas.{numbering-new}
use Rattle.sourcemap_map_rewrite.proofs.RenumberingLemmas.{AreSeen-none, seen-more, tokens-more, seen-all, tokens-all}
use Rattle.sourcemap_map_rewrite.proofs.renumbering.renumber_each.Goals as goal

pub loop-token-init : goal.loop-token-init
loop-token-init c =
    let S : List (List ℕ) = map (string_bytes {Z = Global}) c.args.sources.now in
    let N : List (List ℕ) = map (string_bytes {Z = Global}) c.args.names.now in
    let many_sources : length c.args.sources.now ≡ length S = sym (length-map c.args.sources.now string_bytes) in
    let many_names : length c.args.names.now ≡ length N = sym (length-map c.args.names.now string_bytes) in
    let s = c.in_ok-source_numbers.ensures in
    let n = c.in_ok-name_numbers.ensures in
    record {
      seen = AreSeen-none S N c.in_ok-source_numbers.source_numbers.seen c.in_ok-name_numbers.name_numbers.seen
          s.order n.order;
      tokens = refl;
      sources = numbering-new S c.in_ok-source_numbers.source_numbers (s.numbers
          ∙ ap (λ k. replicate k 4294967295) many_sources) s.order s.ids;
      names = numbering-new N c.in_ok-name_numbers.name_numbers (n.numbers
          ∙ ap (λ k. replicate k 4294967295) many_names) n.order n.ids;
    }

pub loop-token-preserved : goal.loop-token-preserved
loop-token-preserved c =
    let S : List (List ℕ) = map (string_bytes {Z = Global}) c.args.sources.now in
    let N : List (List ℕ) = map (string_bytes {Z = Global}) c.args.names.now in
    let i = c.loop-token.token-index in
    let now = c.loop-token.tokens in
    let none : RawToken =
    record { dst_line = 0; dst_col = 0; src_line = 0; src_col = 0; src_id = 0; name_id = 0; is_range = false } in
    let source = c.in_ok-token.ensures in
    let name = c.in_ok-token-2.ensures in
    let t : RawToken =
    record (get_or now i none) { src_id = c.in_ok-token.field-0; name_id = c.in_ok-token-2.field-0 } in
    let same : t ≡ numbered_with S N c.number.new.self.seen c.number-in-loop-token.new.self.seen (get_or now i none) =
    λ k. record (get_or now i none) { src_id = source.number k; name_id = name.number k } in
    record {
      seen = seen-more S N c.args.tokens.now now i none c.loop-token.source_numbers.seen c.loop-token.name_numbers.seen
          c.loop-token-test.true c.loop-token.invariant.seen c.loop-token.invariant.tokens c.number.new.self.seen
          c.number-in-loop-token.new.self.seen source.more name.more;
      tokens = tokens-more S N c.args.tokens.now now i none c.loop-token.source_numbers.seen
          c.loop-token.name_numbers.seen c.loop-token-test.true c.loop-token.invariant.seen
          c.loop-token.invariant.tokens
          c.number.new.self.seen c.number-in-loop-token.new.self.seen source.more name.more t same;
      sources = source.numbering;
      names = name.numbering;
    }

pub returns-clause-ok : goal.returns-clause-ok
returns-clause-ok c =
    let S : List (List ℕ) = map (string_bytes {Z = Global}) c.args.sources.now in
    let N : List (List ℕ) = map (string_bytes {Z = Global}) c.args.names.now in
    record {
      seen = seen-all S N c.args.tokens.now c.loop-token.token-index c.loop-token.source_numbers.seen
          c.loop-token.name_numbers.seen c.loop-token-test.false c.loop-token.invariant.seen;
      tokens =
          tokens-all S N c.args.tokens.now c.loop-token.tokens c.loop-token.token-index c.loop-token.source_numbers.seen
          c.loop-token.name_numbers.seen c.loop-token-test.false c.loop-token.invariant.tokens;
      numbered_sources = c.loop-token.invariant.sources.numbered;
      numbered_names = c.loop-token.invariant.names.numbered;
    }
