use Rattle.std.proofs.Common.{arith, option_map}
use Rattle.sourcemap_compiled.specs.Stored.{bytes_of, token_value}
use Rattle.sourcemap_c_compiled.proofs.LookupsLemmas.{answered_more, is_found, kept_more}
use Rattle.sourcemap_c_compiled.proofs.lookups.look_up_each.Goals as goal

pub loop-i-preserved : goal.loop-i-preserved
loop-i-preserved c =
    let bytes = bytes_of c.args.map.now in
    let token = c.lookup_token_in_loop-token.result in
    let found = c.lookup_token_in_loop-token.ensures in record {
      each = answered_more bytes c.args.positions.now c.loop-i.found c.loop-i.i _ c.put_answer.new.found
          (omega arith) (omega arith)
          (option_map token_value token, is_found bytes _ token found.value found.own found.next, c.put_answer.ensures)
          c.loop-i.invariant.each;
      rest = kept_more c.args.found.now c.loop-i.found c.loop-i.i c.put_answer.new.found c.loop-i.invariant.rest;
    }
