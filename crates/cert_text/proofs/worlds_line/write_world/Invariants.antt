use Rattle.std.proofs.Common.{◌≡◌, ◌++◌}
use Rattle.std.specs.Prelude.{map, false}
use Rattle.std.specs.List.{range_with_len}
use Rattle.std.specs.Fmt.{digit_glyph}
use Rattle.cert_text.specs.WorldText.{four_of}
use Rattle.cert_text.proofs.worlds_line.write_world.Given as goal

abbrev pub invariant-loop-j : goal.invariant-loop-j
invariant-loop-j l = l.out.items ≡ l.fn.out.items ++ map (λ j. digit_glyph false (four_of l.world j)) (range_with_len 0 l.j)
