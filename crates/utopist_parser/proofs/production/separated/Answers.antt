use Rattle.std.proofs.Common.{List, sym, subst, ◌∙◌, arith}
use Rattle.std.proofs.lemmas.Result.{err_from_is_err_and}
use Rattle.token_forms.specs.steps.Single.{is_mark}
use Rattle.token_forms.specs.steps.Lists.{next_at}
use Rattle.token_forms.proofs.Loops.{goes_on, ends, fails}
use Rattle.token_forms.proofs.Starts.{Separated}
use Rattle.utopist_parser.proofs.production.separated.Goals as goal

pub returns-in_err-read_next-clause-reads : goal.returns-in_err-read_next-clause-reads
returns-in_err-read_next-clause-reads g c =
    let p = err_from_is_err_and c.from_residual-in_err-read_next.result c.from_residual-in_err-read_next.ensures.1 in
    rw (p.1, p.2) (fails (is_mark c.args.separator) (next_at c.args.separator g.T.Production.step 63) _ c.forms.found c.forms.reader.symbols _ c.forms-test.ensures c.in_err-read_next.ensures.reads c.forms.invariant.reads)

pub forms-preserved : goal.forms-preserved
forms-preserved g c = record {
  reads = subst (λ (x : List g.row.T.Denot). Separated c.args.separator g.T.Production.step x c.read_next.new.reader.symbols c.args.reader.now.symbols) (sym c.in_ok-push-2.ensures.ok)
      (goes_on (is_mark c.args.separator) (next_at c.args.separator g.T.Production.step 63) c.forms.found c.forms.reader.symbols c.in_ok-read_next.field-0 c.read_next.new.reader.symbols _ c.forms-test.ensures c.in_ok-read_next.ensures.reads c.in_ok-read_next.ensures.goes_on.1 c.forms.invariant.reads);
  shorter = omega (arith, c.in_ok-read_next.ensures.goes_on.1, c.forms.invariant.shorter);
  text = c.in_ok-read_next.ensures.goes_on.0 ∙ c.forms.invariant.text;
}

pub returns-clause-reads : goal.returns-clause-reads
returns-clause-reads g c = ends (is_mark c.args.separator) (next_at c.args.separator g.T.Production.step 63) c.forms.found c.forms.reader.symbols _ c.forms-test.ensures c.forms.invariant.reads
