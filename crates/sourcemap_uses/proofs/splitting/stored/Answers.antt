use Rattle.sourcemap_uses.proofs.splitting.stored.Goals as goal

pub returns-clause-text : goal.returns-clause-text
returns-clause-text c = c.written_maps_read_back.ensures c.args.map.now c.in_ok-text.text.items c.in_ok-text.ensures.text
