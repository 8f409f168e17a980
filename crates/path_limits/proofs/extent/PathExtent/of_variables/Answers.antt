use Rattle.std.proofs.Common.{◌≡◌, ◌+◌, ◌<◌, ℕ, length, min, sym, ap, ◌∙◌, arith}
use Rattle.canonical_paths.specs.DeclaredPaths.{most_segments}
use Rattle.path_limits.specs.declared.extent.PathExtent.{PathExtent}
use Rattle.path_limits.proofs.PathSums.{same_extent, variables_paths, variables_segments, stopped_product}
use Rattle.path_limits.proofs.extent.PathExtent.of_variables.Goals as goal

pub returns : goal.returns
returns c = λ inside names e f.
    let a : c.args.self.paths ≡ min (length inside) 8193 = ap (λ (x : PathExtent). x.paths) e in
    let s : c.args.self.segments ≡ min (most_segments inside) 33 = ap (λ (x : PathExtent). x.segments) e in
    let some : 0 < length names = omega (arith, f, c.if-count-eq0.false) in
    let q = variables_segments inside names some in
    same_extent _ _
    (stopped_product (length inside) (length names) c.saturating_add-each.result c.min-many.result c.saturating_mul.result c.min.result
    (c.saturating_add-each.ensures ∙ ap (λ (n : ℕ). min (n + 1) 4294967295) a)
    (c.min-many.ensures ∙ ap (λ (n : ℕ). min n 8193) f)
    c.saturating_mul.ensures c.min.ensures
    ∙ sym (variables_paths inside names some))
    (omega (arith, s, q))
