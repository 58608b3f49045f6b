-- Only `compose` takes an adjustment.
use Rattle.sourcemap_cli.proofs.output.apply.Goals as goal

pub returns-in-Some : goal.returns-in-Some
returns-in-Some g c = rw (c.in-Compose.is, c.in-Some.is) (c.adjusted_json.ensures c.in-Compose.field-0)

pub returns-in-None : goal.returns-in-None
returns-in-None g c = absurd (let takes = rw (c.in-Compose.is, c.in-None.is) at c.requires.adjustment in cc)
