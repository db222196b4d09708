-- The labels of a case, and the end of an arm.
use Rattle.std.proofs.Common.{◌≡◌, ℕ, zero, suc, ◌<◌, ◌≤◌, Bool, true, false, ◌==◌, ◌||◌, List, [], ◌∷◌, ◌++◌}
use Rattle.std.proofs.Common.{length, Option, Some, None, refl, sym, ap, subst, ◌∙◌, arith, slice_get, nat_lt}
use Rattle.std.proofs.Common.{eqb-true, true≢false, ltb-true, ltb-false}
use Rattle.std.proofs.lemmas.List.{length-append}
use Rattle.au_base.proofs.ListLemmas.{get_left}
use Rattle.au_low.specs.declared.instructions.Instr.TheVariants as instr
use Rattle.au_lowered.specs.Drafts.{Draft, unless}
use Rattle.au_lowered.specs.Standing.{Stands, ArmsStand}
use Rattle.au_lowered.specs.Statements.{start_of, count_of_cases, labels_of, is_last, arms_of}
use Rattle.au_meaning.specs.Names.{Scope}
use Rattle.au_meaning.specs.Statements.{Flow, is_tag}
use Rattle.au_meaning.specs.Ticks.{Out}
use Rattle.au_meaning.specs.Views.{View}
use Rattle.au_syntax.specs.Plain.{Bytes}
use Rattle.au_syntax.specs.Statements.{Arms, arms, no_arms}
use Rattle.au_lowered.specs.Scopes.{Entry}
use Rattle.au_lowered.specs.Sides.{Coding, Spot}
use Rattle.au_lowered.specs.Frames.{Wide, Frame}
use Rattle.au_lowered.specs.Runs.{Sim}
use Rattle.au_lowered.proofs.FrameLemmas.{get_at}
use Rattle.au_lowered.proofs.SimLemmas.{sim_spare}
use Rattle.au_lowered.specs.Flows.{flow_aim, Behind}
use Rattle.au_lowered.specs.Premises.{EachIn, Placed}
use Rattle.au_lowered.proofs.FlowLemmas.{jump_runs}

labels_length : (n : ℕ) (starts : List (Option ℕ × ℕ)) → length (labels_of n starts) ≡ n
labels_length zero starts = refl
labels_length (suc n) starts = omega (
  arith,
  length-append (labels_of n starts) (start_of n starts ∷ []),
  labels_length n starts,
)

-- the label of a case
pub label_of : (n tag : ℕ) (starts : List (Option ℕ × ℕ)) → tag < n → slice_get (labels_of n starts) tag
    ≡ Some (start_of tag starts)
label_of zero tag starts h = absurd (omega (arith, h))
label_of (suc n) tag starts h = by_last (nat_lt tag n) refl (λ less. label_of n tag starts less)
  where
    by_last : (b : Bool) → nat_lt tag n ≡ b → (tag < n → slice_get (labels_of n starts) tag
        ≡ Some (start_of tag starts))
        → slice_get (labels_of n starts ++ start_of n starts ∷ []) tag ≡ Some (start_of tag starts)
    by_last true e ih =
        let less : tag < n = ltb-true tag n e in
        get_left (labels_of n starts) (start_of n starts ∷ []) tag (omega (
          arith,
          less,
          labels_length n
              starts,
        )) ∙ ih less
    by_last false e ih =
        let least : n ≤ tag = ltb-false tag n e in
        let same : tag ≡ n = omega (arith, least, h) in
        ap (λ k. slice_get (labels_of n starts ++ start_of n starts ∷ []) k) same
        ∙ get_at (labels_of n starts) (start_of n starts) [] n (labels_length n starts)
        ∙ ap (λ k. Some (start_of k starts)) (sym same)

-- a label that is a place
pub label_in : (labels : List ℕ) (many tag label : ℕ) → EachIn many labels → slice_get labels tag
    ≡ Some label → nat_lt label many ≡ true
label_in [] many tag label h e = absurd (grind arith)
label_in (first ∷ rest) many zero label h e = let same : first ≡ label = cc in subst (λ n. nat_lt n many
    ≡ true) same h.0
label_in (first ∷ rest) many (suc tag) label h e = label_in rest many tag label h.1 e

-- the case of a tag
pub tag_is : (tag : ℕ) (mine : Option ℕ) → is_tag tag mine ≡ true → mine ≡ Some tag
tag_is tag None e = absurd (true≢false (sym e))
tag_is tag (Some other) e = ap (λ n. Some n) (eqb-true other tag e)

-- a case that is met is counted
pub counted_tag : (tag : ℕ) (mine : Option ℕ) (place : ℕ) (rest : List (Option ℕ × ℕ))
    → count_of_cases ((mine, place) ∷ rest) ≤ tag
    → (is_tag tag mine ≡ false) × (count_of_cases rest ≤ tag)
counted_tag tag None place rest h = (refl, omega (arith, h))
counted_tag tag (Some other) place rest h = (by_same (other == tag) refl, omega (arith, h))
  where
    by_same : (b : Bool) → (other == tag) ≡ b → (other == tag) ≡ false
    by_same false e = e
    by_same true e = let same = eqb-true other tag e in absurd (omega (arith, h, same))

module _ (by : Coding) (f : Frame by) (get : ℕ → Option Draft) (placed : Placed by f.function get)
    (depth : ℕ) (wide : Wide) (room : ℕ) where
  -- a jump behind an arm, unless the arm needs none
  pub arm_ends : {s : Spot} {n : ℕ} {T C : Type 0} (see : View ℕ T C) (around slot : ℕ) (slots : Scope)
      (note : T) (rest : Arms Bytes T C) (out : Bool) (m next q : ℕ) (scope : List (Entry by)) (r : Out
      Flow)
      → Stands get (unless (out || is_last rest) (instr.Jump q)) m next
      → ArmsStand get (arms_of see around slot slots note rest) next q
      → Sim by f (flow_aim by f (Behind by f get depth wide room out scope) m) 7 s n r
      → Sim by f (flow_aim by f (Behind by f get depth wide room out scope) q) 0 s n r
  arm_ends {s} {n} see around slot slots note no_arms true m next q scope r jump stands g =
      let e : m ≡ q = omega (arith, jump.ends, stands.ends) in
      sim_spare by f r (omega arith) (subst (λ k. Sim by f (flow_aim by f (Behind by f get depth wide room
      true scope) k) 7 s n r) e g)
  arm_ends {s} {n} see around slot slots note no_arms false m next q scope r jump stands g =
      let e : m ≡ q = omega (arith, jump.ends, stands.ends) in
      sim_spare by f r (omega arith) (subst (λ k. Sim by f (flow_aim by f (Behind by f get depth wide room
      false scope) k) 7 s n r) e g)
  arm_ends see around slot slots note (arms at name binds body more) true m next q scope r jump stands g =
      sim_spare by f r (omega arith) (jump_runs by f get placed depth wide room {e = 6} true (instr.Jump q)
      m next q scope r refl jump g)
  arm_ends see around slot slots note (arms at name binds body more) false m next q scope r jump stands g =
      sim_spare by f r (omega arith) (jump_runs by f get placed depth wide room {e = 6} false (instr.Jump q)
      m next q scope r refl jump g)
