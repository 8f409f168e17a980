use Rattle.std.proofs.Common.{◌≡◌, Bool, true, false, refl, ap, sym, ◌∙◌, Err}
use Rattle.concept_rules.proofs.Lines.{line_here}
use Rattle.concept_rules.proofs.Taking.{stays, grows, brings_none, brings_shared}
use Rattle.concept_rules.proofs.parents.take_concept.Goals as goal

not_both : (b : Bool) → b ≡ true → b ≡ false → ⊥
not_both b t e = cc

pub returns-then-has-clause-rules : goal.returns-then-has-clause-rules
returns-then-has-clause-rules c = λ f cs at line lt.
    rw (brings_none f.all f.concept _ cs line _ (c.has.ensures.0 c.if-has.true)) refl

pub returns-then-has-clause-line : goal.returns-then-has-clause-line
returns-then-has-clause-line c = λ f cs at line lt. stays f.all f.concept _ cs line _ (c.has.ensures.0 c.if-has.true)

pub returns-then-shares_name-clause-rules : goal.returns-then-shares_name-clause-rules
returns-then-shares_name-clause-rules c = λ f cs at line lt.
    let shares = c.shares_name.ensures f _ at (line_here f _ cs line) in
    rw (brings_shared f.all f.concept _ cs line _ f.before _ at.lines lt (λ h. not_both _ (c.has.ensures.1 h) c.if-has.false), sym shares, c.if-shares_name.true)
    (ap Err (sym c.broken_at.ensures))

pub returns-clause-rules : goal.returns-clause-rules
returns-clause-rules c = λ f cs at line lt.
    let shares = c.shares_name.ensures f _ at (line_here f _ cs line) in
    rw (brings_shared f.all f.concept _ cs line _ f.before _ at.lines lt (λ h. not_both _ (c.has.ensures.1 h) c.if-has.false), sym shares, c.if-shares_name.false) refl

pub returns-clause-line : goal.returns-clause-line
returns-clause-line c = λ f cs at line lt.
    let shares = c.shares_name.ensures f _ at (line_here f _ cs line) in
    rw c.in_ok-push.ensures
    (grows f.all f.concept _ cs line _ f.before _ at.lines lt (λ h. not_both _ (c.has.ensures.1 h) c.if-has.false) (sym shares ∙ c.if-shares_name.false))
