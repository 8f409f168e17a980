use Rattle.std.proofs.Common.{◌∙◌, sym, ap}
use Rattle.std.specs.Option.{option_copied}
use Rattle.canonical_paths.proofs.FindingLaidOut.{has_layout, path_found}
use Rattle.canonical_paths.proofs.layouts.Layouts.find.Goals as goal

pub returns-in_err-layout : goal.returns-in_err-layout
returns-in_err-layout c =
    λ all asked w d r is.
    absurd (has_layout all asked c.args.self.now w c.args.concept d r is (sym c.layout.ensures ∙ ap option_copied c.in_err-layout.was))

pub returns : goal.returns
returns c =
    λ all asked w d r is.
    path_found all asked c.args.self.now w c.args.concept d r is c.in_ok-layout.layout.now (sym c.layout.ensures ∙ ap option_copied c.in_ok-layout.was)
    c.args.path.now c.find.result c.as_slice.result.now (c.as_slice.ensures ∙ c.self.view_is) c.find.ensures.place c.find.ensures.known c.find.ensures.kind
