-- The text of a block.
use Rattle.std.specs.Prelude.{List, ℕ, [], ◌++◌, codes, decimal}
use Rattle.proof_term.specs.Proof.{Steps, done, step, Subs, no_more, known, block}

abbrev mutual
  -- {number ["(" sub {"," sub} ")"] ";"}
  pub steps_text : Steps → List ℕ
  steps_text done = []
  steps_text (step n subs more) = (decimal n ++ (subs_text subs ++ codes ";")) ++ steps_text more

  -- ["(" sub {"," sub} ")"], where a sub is "known" or "{" {step} "}"
  pub subs_text : Subs → List ℕ
  subs_text no_more = []
  subs_text (known more) = codes "(known" ++ more_subs_text more
  subs_text (block b more) = (codes "({" ++ (steps_text b ++ codes "}")) ++ more_subs_text more

  -- {"," sub} ")"
  pub more_subs_text : Subs → List ℕ
  more_subs_text no_more = codes ")"
  more_subs_text (known more) = codes ",known" ++ more_subs_text more
  more_subs_text (block b more) = (codes ",{" ++ (steps_text b ++ codes "}")) ++ more_subs_text more

-- "{" {step} "}"
abbrev pub block_text : Steps → List ℕ
block_text b = codes "{" ++ (steps_text b ++ codes "}")

-- "proof " block LF
abbrev pub proof_line : Steps → List ℕ
proof_line b = codes "proof " ++ (block_text b ++ codes "\n")
