use Rattle.std.proofs.Common.{◌≡◌, ◌++◌, ◌∷◌, take}
use Rattle.std.specs.Prelude.{codes}
use Rattle.std.specs.List.{flat_map}
use Rattle.cert_text.specs.WorldText.{world_text}
use Rattle.cert_text.proofs.worlds_line.write_worlds.Given as goal

abbrev pub invariant-loop-world : goal.invariant-loop-world
invariant-loop-world l = l.out.items ≡ l.fn.out.items ++ (codes "worlds" ++ flat_map (λ w. 32 ∷ world_text l.n w) (take l.world-index l.world-items))
