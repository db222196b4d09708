-- Code that is written with a hole in front, which is filled when the rest is there.
use Rattle.std.proofs.Common.{◌≡◌, ℕ, ◌+◌, Bool, true, false, List, [], ◌∷◌, ◌++◌, length, set, Option, Some}
use Rattle.std.proofs.Common.{None, refl, sym, ap, ◌∙◌, arith}
use Rattle.std.proofs.lemmas.List.{append-nil, append_assoc, length-append, length_push, set_at}
use Rattle.au_low.specs.declared.instructions.Instr.{Instr}
use Rattle.au_low.specs.declared.instructions.Instr.TheVariants.{ForStep, ForTest, Jump, JumpNot, Look, Store}
use Rattle.au_lowered.specs.Drafts.{Draft, plain, Written, ◌>>◌, nothing, one, does, unless, count_unless, when, looped}
use Rattle.au_lowered.specs.Statements.{turns}
use Rattle.au_lowering_expressions.specs.Wrote.{wrote}
use Rattle.au_lowering_expressions.proofs.WroteLemmas.{wrote_row}
use Rattle.au_lowering_statements.specs.Ends.{first_to, turn_from}

-- one more instruction
pub put_length : (x : Draft) (d : List Draft) → length (wrote (one x) d) ≡ length d + 1
unfolding wrote
put_length x d = length_push d x

-- The hole is filled by an instruction that has a label, which is the place behind the rest.
pub head_is : (label : ℕ → Instr) (hole : Draft) (a : Written) (d : List Draft)
    → set (wrote a (wrote (one hole) d)) (length d) (plain (label (length (wrote a (wrote (one hole) d)))))
    ≡ d ++ (plain (label (length d + 1 + length (a (length d + 1)))) ∷ a (length d + 1))
unfolding wrote
head_is label hole a d =
    let chosen = a (length d + 1) in
    let here : length (d ++ hole ∷ []) ≡ length d + 1 = length_push d hole in
    let all : (d ++ hole ∷ []) ++ a (length (d ++ hole ∷ [])) ≡ d ++ (hole ∷ chosen) =
    ap (λ p. (d ++ hole ∷ []) ++ a p) here ∙ append_assoc d (hole ∷ []) chosen in
    let long : length (d ++ (hole ∷ chosen)) ≡ length d + 1 + length chosen =
    omega (arith, length-append d (hole ∷ chosen)) in
    ap (λ more. set more (length d) (plain (label (length more)))) all
    ∙ set_at d hole chosen (plain (label (length (d ++ (hole ∷ chosen))))) (length d) refl
    ∙ ap (λ l. d ++ (plain (label l) ∷ chosen)) long

module _ (label : ℕ → Instr) (hole : Draft) (a : Written) (d d1 d2 d3 : List Draft) (at : ℕ) where
  pub head_written : at ≡ length d → d1 ≡ wrote (one hole) d → d2 ≡ wrote a d1
      → d3 ≡ set d2 at (plain (label (length d2)))
      → d3 ≡ d ++ (plain (label (length d + 1 + length (a (length d + 1)))) ∷ a (length d + 1))
  head_written here first rest filled =
      let whole : d2 ≡ wrote a (wrote (one hole) d) = rest ∙ ap (wrote a) first in
      filled ∙ ap (λ p. set d2 p (plain (label (length d2)))) here
      ∙ ap (λ x. set x (length d) (plain (label (length x)))) whole
      ∙ head_is label hole a d

-- what is done where a test is true
pub when_written : (a : Written) (d d1 d2 d3 : List Draft) (at : ℕ) → at ≡ length d
    → d1 ≡ wrote (does (JumpNot 0)) d → d2 ≡ wrote a d1 → d3 ≡ set d2 at (plain (JumpNot (length d2)))
    → d3 ≡ wrote (when a) d
unfolding wrote
when_written a d d1 d2 d3 at here first rest filled =
    head_written JumpNot (plain (JumpNot 0)) a d d1 d2 d3 at here first rest filled

-- a loop is its test, and its block where the test is true
loop_is : (returns : Bool) (test block : Written) (d : List Draft)
    → wrote (test >> when (block >> unless returns (Jump (length d)))) d ≡ wrote (looped returns test block) d
unfolding wrote
loop_is returns test block d = refl

-- `while`
pub loop_written : (returns : Bool) (test block : Written) (d d1 d2 : List Draft) (start : ℕ)
    → start ≡ length d → d1 ≡ wrote test d → d2 ≡ wrote (when (block >> unless returns (Jump start))) d1
    → d2 ≡ wrote (looped returns test block) d
loop_written returns test block d d1 d2 start here first rest =
    rest ∙ ap (λ t. wrote (when (block >> unless returns (Jump t))) d1) here
    ∙ ap (wrote (when (block >> unless returns (Jump (length d))))) first
    ∙ sym (wrote_row test (when (block >> unless returns (Jump (length d)))) d)
    ∙ loop_is returns test block d

-- `for`, behind its bounds
pub turns_written : (returns : Bool) (slot : ℕ) (block : Written) (d d1 d2 d3 : List Draft) (at : ℕ)
    → at ≡ length d → d1 ≡ wrote (does (ForTest slot (slot + 1) 0)) d
    → d2 ≡ wrote (turn_from returns slot block) d1
    → d3 ≡ set d2 at (plain (ForTest slot (slot + 1) (length d2)))
    → d3 ≡ wrote (turns returns slot block) d
unfolding wrote
turns_written returns slot block d d1 d2 d3 at here first rest filled =
    head_written (ForTest slot (slot + 1)) (plain (ForTest slot (slot + 1) 0)) (turn_from returns slot block)
    d d1 d2 d3 at here first rest filled

-- one turn of `for`, where its place is known
pub turn_written : (returns : Bool) (slot : ℕ) (block : Written) (d d1 : List Draft) (start : ℕ)
    → start ≡ length d
    → d1 ≡ wrote (does (Look slot []) >> does (Store (slot + 2)) >> block
    >> unless returns (ForStep slot (slot + 1) start)) d
    → d1 ≡ wrote (turn_from returns slot block) d
unfolding wrote
turn_written returns slot block d d1 start here is =
    is ∙ ap (λ t. wrote (does (Look slot []) >> does (Store (slot + 2)) >> block
    >> unless returns (ForStep slot (slot + 1) t)) d) here
