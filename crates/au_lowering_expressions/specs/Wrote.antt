-- What is written behind other code.
use Rattle.std.specs.Prelude.{ℕ, ◌+◌, List, [], ◌∷◌, ◌++◌, length, Option, Some, None}
use Rattle.au_low.specs.declared.instructions.Instr.TheVariants.{Jump, JumpNot}
use Rattle.au_lowered.specs.Drafts.{Draft, plain, Written}

-- code with more behind it
unfoldable pub wrote : Written → List Draft → List Draft
wrote write before = before ++ write (length before)

-- `JUMPNOT(l) a JUMP(m) l:`, where m is given
abbrev pub first_branch : Written → ℕ → Written
first_branch a m place =
    let chosen = a (place + 1) in
    plain (JumpNot (place + 1 + length chosen + 1)) ∷ (chosen ++ plain (Jump m) ∷ [])
