-- Code that is written behind other code, piece by piece.
use Rattle.std.proofs.Common.{◌≡◌, ℕ, ◌+◌, false, List, [], ◌∷◌, ◌++◌, length, set, Option, Some, None, refl}
use Rattle.std.proofs.Common.{sym, ap, ◌∙◌, arith}
use Rattle.std.proofs.lemmas.List.{append-nil, append_assoc, length-append, length-set, length_push, set_at}
use Rattle.au_low.specs.declared.instructions.Instr.TheVariants.{Jump, JumpNot}
use Rattle.au_lowered.specs.Drafts.{Draft, plain, Written, ◌>>◌, nothing, one, does, either, given}
use Rattle.au_lowering_expressions.specs.Parts.{FirstBranch, first_ended}
use Rattle.au_lowering_expressions.specs.Wrote.{first_branch, wrote}

pub wrote_nothing : (d : List Draft) → wrote nothing d ≡ d
unfolding wrote
wrote_nothing d = append-nil d

pub wrote_one : (x : Draft) (d : List Draft) → wrote (one x) d ≡ d ++ x ∷ []
unfolding wrote
wrote_one x d = refl

pub wrote_row : (a b : Written) (d : List Draft) → wrote (a >> b) d ≡ wrote b (wrote a d)
unfolding wrote
wrote_row a b d =
    let first = a (length d) in
    let long : length (d ++ first) ≡ length d + length first = length-append d first in
    sym (ap (λ p. (d ++ first) ++ b p) long ∙ append_assoc d first (b (length d + length first)))

-- where there is nothing, nothing is written
pub none_written : {A : Type 0} (o : Option A) (write : A → Written) (d : List Draft) → o ≡ None
    → d ≡ wrote (given o write) d
none_written o write d is =
    sym (wrote_nothing d) ∙ ap (λ x. wrote (given x write) d) (sym is)

-- ---- two branches

-- behind the first of two branches a jump is written, and then the test's label
first_is : (a : Written) (d : List Draft)
    → first_ended (length d) (wrote a (wrote (does (JumpNot 0)) d)) ≡ wrote (first_branch a 0) d
unfolding wrote
first_is a d =
    let test = plain (JumpNot 0) in
    let jump = plain (Jump 0) in
    let chosen = a (length d + 1) in
    let here : length (d ++ test ∷ []) ≡ length d + 1 = length_push d test in
    let two : ((d ++ test ∷ []) ++ a (length (d ++ test ∷ []))) ++ jump ∷ []
    ≡ d ++ (test ∷ (chosen ++ jump ∷ [])) =
    ap (λ p. ((d ++ test ∷ []) ++ a p) ++ jump ∷ []) here
    ∙ append_assoc (d ++ test ∷ []) chosen (jump ∷ [])
    ∙ append_assoc d (test ∷ []) (chosen ++ jump ∷ []) in
    let long : length (d ++ (test ∷ (chosen ++ jump ∷ []))) ≡ length d + 1 + length chosen + 1 =
    omega (arith, length-append d (test ∷ (chosen ++ jump ∷ [])), length-append chosen (jump ∷ [])) in
    ap (λ more. set more (length d) (plain (JumpNot (length more)))) two
    ∙ set_at d test (chosen ++ jump ∷ [])
    (plain (JumpNot (length (d ++ (test ∷ (chosen ++ jump ∷ [])))))) (length d) refl
    ∙ ap (λ l. d ++ (plain (JumpNot l) ∷ (chosen ++ jump ∷ []))) long

-- how long that is
first_length : (test : ℕ) (d : List Draft) → length (first_ended test d) ≡ length d + 1
first_length test d =
    let more = d ++ plain (Jump 0) ∷ [] in
    length-set more test (plain (JumpNot (length more))) ∙ length_push d (plain (Jump 0))

pub first_written : (a : Written) (d d1 d2 d3 : List Draft) (test jump : ℕ) → test ≡ length d
    → d1 ≡ wrote (does (JumpNot 0)) d → d2 ≡ wrote a d1 → jump ≡ length d2 → d3 ≡ first_ended test d2
    → FirstBranch a d d3 jump
first_written a d d1 d2 d3 test jump at one two here three =
    let whole : d2 ≡ wrote a (wrote (does (JumpNot 0)) d) = two ∙ ap (wrote a) one in
    record {
      written = three ∙ ap (λ t. first_ended t d2) at ∙ ap (first_ended (length d)) whole ∙ first_is a d;
      place = omega (arith, here, ap length three, first_length test d2);
    }

-- the second branch is written, and then the label of the jump behind the first
either_is : (a b : Written) (d d1 : List Draft) (jump : ℕ) → FirstBranch a d d1 jump
    → set (wrote b d1) jump (plain (Jump (length (wrote b d1)))) ≡ wrote (either false a b) d
unfolding wrote
either_is a b d d1 jump f =
    let chosen = a (length d + 1) in
    let l = length d + 1 + length chosen + 1 in
    let test = plain (JumpNot l) in
    let hole = plain (Jump 0) in
    let front = d ++ (test ∷ chosen) in
    let other = b l in
    let is : d1 ≡ front ++ hole ∷ [] = f.written ∙ sym (append_assoc d (test ∷ chosen) (hole ∷ [])) in
    let front_long : length front ≡ length d + (length chosen + 1) =
    omega (arith, length-append d (test ∷ chosen)) in
    let same_long : length d1 ≡ length (front ++ hole ∷ []) = ap length is in
    let pushed : length (front ++ hole ∷ []) ≡ length front + 1 = length_push front hole in
    let long : length d1 ≡ l = omega arith in
    let place : jump + 1 ≡ length d1 = f.place in
    let at : length front ≡ jump = omega arith in
    let whole : d1 ++ b (length d1) ≡ front ++ (hole ∷ other) =
    ap (λ n. d1 ++ b n) long ∙ ap (λ x. x ++ other) is ∙ append_assoc front (hole ∷ []) other in
    let many : length (front ++ (hole ∷ other)) ≡ length front + (length other + 1) =
    omega (arith, length-append front (hole ∷ other)) in
    let end : length (front ++ (hole ∷ other)) ≡ l + length other = omega arith in
    ap (λ x. set x jump (plain (Jump (length x)))) whole
    ∙ set_at front hole other (plain (Jump (length (front ++ (hole ∷ other))))) jump at
    ∙ ap (λ n. front ++ (plain (Jump n) ∷ other)) end
    ∙ append_assoc d (test ∷ chosen) (plain (Jump (l + length other)) ∷ other)

pub either_written : (a b : Written) (d d1 d2 d3 : List Draft) (jump : ℕ) → FirstBranch a d d1 jump
    → d2 ≡ wrote b d1 → d3 ≡ set d2 jump (plain (Jump (length d2)))
    → d3 ≡ wrote (either false a b) d
either_written a b d d1 d2 d3 jump f second ended =
    ended ∙ ap (λ x. set x jump (plain (Jump (length x)))) second ∙ either_is a b d d1 jump f
