use Rattle.std.proofs.Common.{◌≡◌, length, min, ap, arith}
use Rattle.canonical_paths.specs.DeclaredPaths.{most_segments}
use Rattle.path_limits.specs.declared.extent.PathExtent.{PathExtent}
use Rattle.path_limits.proofs.PathSums.{same_extent, joined_paths, joined_segments}
use Rattle.path_limits.proofs.extent.PathExtent.join.Goals as goal

pub returns : goal.returns
returns c = λ these those e f.
    let a : c.args.self.paths ≡ min (length these) 8193 = ap (λ (x : PathExtent). x.paths) e in
    let b : c.args.other.paths ≡ min (length those) 8193 = ap (λ (x : PathExtent). x.paths) f in
    let s : c.args.self.segments ≡ min (most_segments these) 33 = ap (λ (x : PathExtent). x.segments) e in
    let t : c.args.other.segments ≡ min (most_segments those) 33 = ap (λ (x : PathExtent). x.segments) f in
    let p = joined_paths these those in
    let q = joined_segments these those in
    same_extent _ _ (omega (arith, a, b, p)) (omega (arith, s, t, q))
