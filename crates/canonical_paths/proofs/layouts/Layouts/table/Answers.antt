use Rattle.std.proofs.Common.{◌∙◌, sym, ap}
use Rattle.std.specs.Option.{option_copied}
use Rattle.canonical_paths.proofs.FindingLaidOut.{has_layout}
use Rattle.canonical_paths.proofs.layouts.Layouts.table.Goals as goal

pub returns-in-None : goal.returns-in-None
returns-in-None c =
    λ all asked w d r is.
    absurd (has_layout all asked c.args.self.now w c.args.concept d r is (sym c.layout.ensures ∙ ap option_copied c.in-None.is))
