-- The arms of a case, whose jumps lead to its end.
use Rattle.std.proofs.Common.{◌≡◌, ℕ, ◌+◌, Bool, true, false, ◌||◌, List, [], ◌∷◌, ◌++◌, length, set, Option}
use Rattle.std.proofs.Common.{Some, None, refl, sym, ap, ◌∙◌, arith}
use Rattle.std.proofs.lemmas.List.{append-nil, append_assoc, length-append, length_push, set_at}
use Rattle.au_typing.specs.Returns.{block_returns}
use Rattle.au_low.specs.declared.instructions.Instr.TheVariants.{Case, Jump}
use Rattle.au_lowered.specs.Drafts.{Draft, plain, Written, ◌>>◌, does, unless, count_unless}
use Rattle.au_lowered.specs.Statements.{ArmsWritten, arm_then, arms_of, cases, count_of_cases, is_last, labels_of}
use Rattle.au_lowering_expressions.specs.Wrote.{wrote}
use Rattle.au_lowering_statements.specs.Ends.{AllBelow, Apart, Holed, arm_block, arm_upto, arms_upto, with_jumps}
use Rattle.au_lowering_statements.proofs.JumpLemmas.{apart_below, jumps_apart, jumps_length, unless_length}
use Rattle.au_lowering_statements.proofs.TestLemmas.{unless_to}
use Rattle.au_meaning.specs.Names.{Scope}
use Rattle.au_meaning.specs.Statements.{tag_told}
use Rattle.au_meaning.specs.Views.{View}
use Rattle.au_syntax.specs.Plain.{Bytes}
use Rattle.au_syntax.specs.Statements.{Arms, no_arms, arms}

-- Arms whose jumps lead to a place are as long as the arms, begin at the same places, and are the arms where
-- the place is their end.
pub record ArmsEnd (upto : ℕ → ℕ → ArmsWritten) (whole : ℕ → ArmsWritten) : Type 0 where
  pub long : (m p : ℕ) → length (upto m p).code ≡ length (whole p).code
  pub starts : (m p : ℕ) → (upto m p).starts ≡ (whole p).starts
  pub end : (m p : ℕ) → m ≡ p + length (whole p).code → (upto m p).code ≡ (whole p).code

arm_ends : (u : Bool) (tag : Option ℕ) (a : Written) (upto : ℕ → ℕ → ArmsWritten) (rest : ℕ → ArmsWritten)
    → ArmsEnd upto rest → ArmsEnd (λ m. arm_upto m u tag a (upto m)) (arm_then u tag a rest)
arm_ends u tag a upto rest ends = record {
  long = λ m p.
      let next = p + length (a p) + count_unless u in
      let jump = Jump (next + length (rest next).code) in
      length-append (a p) (unless u (Jump m) next ++ (upto m next).code)
      ∙ ap (λ n. length (a p) + n)
      (length-append (unless u (Jump m) next) (upto m next).code
      ∙ ap (λ n. n + length (upto m next).code) (unless_length u m next ∙ sym (jump_long jump next))
      ∙ ap (λ n. length (unless u jump next) + n) (ends.long m next)
      ∙ sym (length-append (unless u jump next) (rest next).code))
      ∙ sym (length-append (a p) (unless u jump next ++ (rest next).code));
  starts = λ m p.
      let next = p + length (a p) + count_unless u in
      ap (λ s. (tag, p) ∷ s) (ends.starts m next);
  end = λ m p is.
      let next = p + length (a p) + count_unless u in
      let k = next + length (rest next).code in
      let here : m ≡ k =
      omega (
        arith,
        is,
        length-append (a p) (unless u (Jump k) next ++ (rest next).code),
        length-append (unless u (Jump k) next) (rest next).code,
        unless_length u k next,
      ) in
      ap (λ j. a p ++ (j ++ (upto m next).code)) (unless_to u m k next next here)
      ∙ ap (λ c. a p ++ (unless u (Jump k) next ++ c)) (ends.end m next here);
}
  where
    jump_long : (i : Rattle.au_low.specs.declared.instructions.Instr.Instr) (p : ℕ)
        → length (unless u i p) ≡ count_unless u
    jump_long i p = jump_case u
      where
        jump_case : (b : Bool) → length (unless b i p) ≡ count_unless b
        jump_case true = refl
        jump_case false = refl

module _ {T C : Type 0} (see : View ℕ T C) (around slot : ℕ) (scope : Scope) (note : T) where
  pub arms_end : (all : Arms Bytes T C)
      → ArmsEnd (λ m. arms_upto see around slot scope m note all) (arms_of see around slot scope note all)
  arms_end no_arms = record { long = λ m p. refl; starts = λ m p. refl; end = λ m p is. refl }
  arms_end (arms at name binds body rest) =
      arm_ends (block_returns body || is_last rest) (tag_told see note name.name)
      (arm_block see around slot scope note name.name binds body)
      (λ m. arms_upto see around slot scope m note rest) (arms_of see around slot scope note rest)
      (arms_end rest)

-- an arm is written, and then others
pub arms_row : (m : ℕ) (u : Bool) (tag : Option ℕ) (a : Written) (others : ℕ → ArmsWritten) (d : List Draft)
    → wrote (λ p. (arm_upto m u tag a others p).code) d
    ≡ wrote (λ p. (others p).code) (wrote (a >> unless u (Jump m)) d)
unfolding wrote
arms_row m u tag a others d =
    let p = length d in
    let own = a p in
    let next = p + length own + count_unless u in
    let jump = unless u (Jump m) (p + length own) in
    let jump_long : length jump ≡ count_unless u = unless_length u m (p + length own) in
    let long : length (d ++ (own ++ jump)) ≡ next =
    omega (arith, length-append d (own ++ jump), length-append own jump, jump_long) in
    ap (λ j. d ++ (own ++ (j ++ (others next).code))) (unless_to u m m next (p + length own) refl)
    ∙ ap (λ x. d ++ x) (sym (append_assoc own jump (others next).code))
    ∙ sym (append_assoc d (own ++ jump) (others next).code)
    ∙ sym (ap (λ n. (d ++ (own ++ jump)) ++ (others n).code) long)

-- where the first arm's successor begins
pub arm_next : (m : ℕ) (u : Bool) (a : Written) (d : List Draft)
    → length (wrote (a >> unless u (Jump m)) d) ≡ length d + length (a (length d)) + count_unless u
unfolding wrote
arm_next m u a d =
    let own = a (length d) in
    let jump = unless u (Jump m) (length d + length own) in
    omega (
      arith,
      length-append d (own ++ jump),
      length-append own jump,
      unless_length u m
          (length d + length own),
    )

-- A case is written with a hole in front, then its arms, and then the jumps and the hole are filled.
pub cases_written : (slot : ℕ) (upto : ℕ → ℕ → ArmsWritten) (whole : ℕ → ArmsWritten) (all : List ℕ)
    (starts : List (Option ℕ × ℕ)) (d d1 d2 d3 : List Draft) (at : ℕ)
    → ArmsEnd upto whole → at ≡ length d → d1 ≡ wrote (does (Case slot [])) d
    → Holed (λ m p. (upto m p).code) [] d1 all d2
    → starts ≡ (upto 0 (length d1)).starts
    → d3 ≡ set (with_jumps (length d2) all d2) at (plain
    (Case slot (labels_of (count_of_cases starts) starts)))
    → d3 ≡ wrote (cases slot whole) d
unfolding wrote
cases_written slot upto whole all starts d d1 d2 d3 at ends here first holed begins filled =
    let hole = plain (Case slot []) in
    let m = length d2 in
    let size : length d1 ≡ length d + 1 = ap length first ∙ length_push d hole in
    let code = (whole (length d1)).code in
    let with_all : with_jumps m all d2 ≡ d1 ++ (upto m (length d1)).code = holed.filled tt m in
    let long : m ≡ length d1 + length code =
    sym (jumps_length m all d2) ∙ ap length with_all ∙ length-append d1 (upto m (length d1)).code
    ∙ ap (λ n. length d1 + n) (ends.long m (length d1)) in
    let same : (upto m (length d1)).code ≡ code = ends.end m (length d1) long in
    let their : starts ≡ (whole (length d + 1)).starts =
    begins ∙ ends.starts 0 (length d1) ∙ ap (λ n. (whole n).starts) size in
    let goes = λ (s : List (Option ℕ × ℕ)). plain (Case slot (labels_of (count_of_cases s) s)) in
    let all_code : with_jumps m all d2 ≡ d ++ (hole ∷ (whole (length d + 1)).code) =
    with_all ∙ ap (λ c. d1 ++ c) same
    ∙ ap (λ x. x ++ code) first ∙ append_assoc d (hole ∷ []) code
    ∙ ap (λ n. d ++ (hole ∷ (whole n).code)) size in
    filled
    ∙ ap (λ p. set (with_jumps m all d2) p (goes starts)) here
    ∙ ap (λ x. set x (length d) (goes starts)) all_code
    ∙ set_at d hole (whole (length d + 1)).code (goes starts) (length d) refl
    ∙ ap (λ s. d ++ (goes s ∷ (whole (length d + 1)).code)) their
