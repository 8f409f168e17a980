-- The text of one step, and of one answer to a subtask.
use Rattle.std.specs.Prelude.{List, ℕ, ◌++◌, codes, decimal}
use Rattle.proof_term.specs.declared.step.Step.{Step}
use Rattle.proof_term.specs.declared.step.Sub.{Sub}
use Rattle.proof_term.specs.declared.step.Sub.TheVariants.{Known, Body}
use Rattle.proof_term.specs.Plain.{subs_of}
use Rattle.cert_text.specs.BlockText.{block_text, subs_text}

-- number ["(" sub {"," sub} ")"] ";"
abbrev pub step_text : Step → List ℕ
step_text s = decimal s.stmt ++ (subs_text (subs_of s.subs) ++ codes ";")

-- "known" | block
abbrev pub sub_text : Sub → List ℕ
sub_text Known = codes "known"
sub_text (Body b) = block_text b
