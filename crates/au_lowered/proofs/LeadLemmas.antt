-- Runs one after another.
use Rattle.std.proofs.Common.{◌≡◌, ℕ, suc, ◌+◌, ◌≤◌, Some, refl, ap, subst, ◌∙◌, arith}
use Rattle.au_low.specs.declared.code.Code.{Code}
use Rattle.au_low.specs.declared.endings.Ending.TheVariants.{Steps}
use Rattle.au_low.specs.declared.instructions.Instr.{Instr}
use Rattle.au_low.specs.Instructions.{act}
use Rattle.au_low.specs.Machines.{Next, goes, writes, waits, exits, aborts, stuck}
use Rattle.au_low.specs.Runs.{Outcome, exec, next, next_if, fetched, heard, on_next, after, byte_taken, rest_of}
use Rattle.au_meaning.specs.Worlds.{World}
use Rattle.au_lowered.specs.Sides.{Coding, Spot, told}
use Rattle.au_lowered.specs.Runs.{Reach, at, ended, lost, reached, run_at, Seen, Leads, CutOff}

module _ (code : Code) where
  -- what is seen is seen by equal words
  seen_same : (r : Reach) (k m n : ℕ) (o p : Outcome) → m ≡ n → p ≡ o → Seen code r k m o
      → Seen code r k n p
  seen_same (at s) k m n o p e q h = subst (λ i. p ≡ exec code k (run_at s i)) e (q ∙ h)
  seen_same (ended ending output left deeds) k m n o p e q h =
      subst (λ i. p ≡ record { ending = ending; output = output; left = left; events = deeds; made = i }) e
      (q ∙ h)
  seen_same lost k m n o p e q h = tt

  -- one instruction
  seen_next : (nx : Next) (s : Spot) (k made : ℕ)
      → Seen code (reached s nx) k (made + 1) (on_next code nx (run_at s made) (exec code k))
  seen_next (goes m) s k made = refl
  seen_next (writes bytes m) s k made = refl
  seen_next waits s k made = tt
  seen_next (exits success m) s k made = refl
  seen_next (aborts fault m) s k made = refl
  seen_next stuck s k made = tt

  seen_one : (s : Spot) (i : Instr) (k made : ℕ) → fetched code s.machine ≡ Some i
      → Seen code (reached s (act code i s.machine)) k (made + 1) (exec code (suc k) (run_at s made))
  unfolding exec
  seen_one s i k made is =
      let e : next code s.machine ≡ act code i s.machine = ap (λ o. next_if code o s.machine) is in
      seen_same (reached s (act code i s.machine)) k (made + 1) (made + 1) _ _ refl
      (ap (λ nx. on_next code nx (run_at s made) (exec code k)) e)
      (seen_next (act code i s.machine) s k made)

  -- an instruction that waits for a byte, when the next one of the input has come
  seen_after : (nx : Next) (s : Spot) (k made : ℕ)
      → Seen code (reached s nx) k (made + 1) (after nx (run_at s made) (exec code k))
  seen_after (goes m) s k made = refl
  seen_after (writes bytes m) s k made = refl
  seen_after waits s k made = tt
  seen_after (exits success m) s k made = refl
  seen_after (aborts fault m) s k made = refl
  seen_after stuck s k made = tt

  -- where a byte of the input was taken
  abbrev pub byte_later : Spot → Spot
  byte_later s = record s { left = rest_of s.left }

  seen_heard : (s : Spot) (i : Instr) (k made : ℕ) → fetched code s.machine ≡ Some i → act code i s.machine ≡ waits
      → Seen code (reached (byte_later s) (heard code (byte_taken s.left) s.machine)) k (made + 1) (exec code (suc k)
      (run_at s made))
  unfolding exec
  seen_heard s i k made is wait =
      let nx = heard code (byte_taken s.left) s.machine in
      let e : next code s.machine ≡ waits = ap (λ o. next_if code o s.machine) is ∙ wait in
      seen_same (reached (byte_later s) nx) k (made + 1) (made + 1) _ _ refl
      (ap (λ n. on_next code n (run_at s made) (exec code k)) e)
      (seen_after nx (byte_later s) k made)

  -- nothing is run
  pub leads_none : (s : Spot) (n : ℕ) → Leads code s n (at s) n 0
  leads_none s n = record {
    steps = 0;
    least = omega arith;
    most = omega arith;
    by = λ k made.
        let e : made ≡ made + 0 = omega arith in
        let q : 0 + k ≡ k = omega arith in
        seen_same (at s) k made (made + 0) _ _ e (ap (λ i. exec code i (run_at s made)) q) refl;
  }

  -- one run and another
  pub leads_on : {s t : Spot} {r : Reach} {n m l d e : ℕ} → Leads code s n (at t) m d → Leads code t m r l e
      → Leads code s n r l (d + e)
  leads_on {s} {t} {r} {n} {m} {l} {d} {e} a b = record {
    steps = a.steps + b.steps;
    least = omega (arith, a.least, b.least);
    most = omega (arith, a.most, b.most);
    by = λ k made.
        let p : made + a.steps + b.steps ≡ made + (a.steps + b.steps) = omega arith in
        let q : a.steps + b.steps + k ≡ a.steps + (b.steps + k) = omega arith in
        seen_same r k (made + a.steps + b.steps) (made + (a.steps + b.steps)) _ _ p
        (ap (λ i. exec code i (run_at s made)) q ∙ a.by (b.steps + k) made)
        (b.by k (made + a.steps));
  }

  -- fewer steps to spare
  pub leads_spare : {s : Spot} {r : Reach} {n l d e : ℕ} → e ≤ d → Leads code s n r l d
      → Leads code s n r l e
  leads_spare le a = record {
    steps = a.steps;
    least = a.least;
    most = omega (arith, a.most, le);
    by = a.by;
  }

  -- a tick and its instruction
  pub leads_tick : (s : Spot) (i : Instr) (n : ℕ) → fetched code s.machine ≡ Some i
      → Leads code s (suc n) (reached s (act code i s.machine)) n 7
  leads_tick s i n is = record {
    steps = 1;
    least = omega arith;
    most = omega arith;
    by = λ k made.
        let e : 1 + k ≡ suc k = omega arith in
        seen_same (reached s (act code i s.machine)) k (made + 1) (made + 1) _ _ refl
        (ap (λ j. exec code j (run_at s made)) e) (seen_one s i k made is);
  }

  -- a tick and an instruction that waits for a byte of the input
  pub leads_heard : (s : Spot) (i : Instr) (n : ℕ) → fetched code s.machine ≡ Some i → act code i s.machine ≡ waits
      → Leads code s (suc n) (reached (byte_later s) (heard code (byte_taken s.left) s.machine)) n 7
  leads_heard s i n is wait = record {
    steps = 1;
    least = omega arith;
    most = omega arith;
    by = λ k made.
        let e : 1 + k ≡ suc k = omega arith in
        seen_same (reached (byte_later s) (heard code (byte_taken s.left) s.machine)) k (made + 1) (made + 1) _ _ refl
        (ap (λ j. exec code j (run_at s made)) e) (seen_heard s i k made is wait);
  }

  -- an instruction without a tick, which is one of those to spare
  pub leads_more : {s t : Spot} {n l e : ℕ} (i : Instr) → fetched code t.machine ≡ Some i
      → Leads code s n (at t) l (suc e) → Leads code s n (reached t (act code i t.machine)) l e
  leads_more {s} {t} {n} {l} {e} i is a = record {
    steps = a.steps + 1;
    least = omega (arith, a.least);
    most = omega (arith, a.most);
    by = λ k made.
        let p : made + a.steps + 1 ≡ made + (a.steps + 1) = omega arith in
        let q : a.steps + 1 + k ≡ a.steps + suc k = omega arith in
        seen_same (reached t (act code i t.machine)) k (made + a.steps + 1) (made + (a.steps + 1)) _ _ p
        (ap (λ j. exec code j (run_at s made)) q ∙ a.by (suc k) made)
        (seen_one t i k (made + a.steps) is);
  }

  -- the same runs to equal places
  pub leads_to : {s : Spot} {r t : Reach} {n l e : ℕ} → r ≡ t → Leads code s n r l e → Leads code s n t l e
  leads_to {s} {r} {t} {n} {l} {e} q a = subst (λ x. Leads code s n x l e) q a

-- a run, and then one that is cut off
pub cut_on : (by : Coding) {s t : Spot} {w : World} {n m e : ℕ} → Leads by.code s n (at t) m e
    → CutOff by t m w → CutOff by s n w
cut_on by {s} {t} {w} {n} {m} {e} a b = record {
  steps = a.steps + b.steps;
  least = omega (arith, a.least, b.least);
  most = omega (arith, a.most, b.most);
  cuts = λ made.
      let p : made + a.steps + b.steps ≡ made + (a.steps + b.steps) = omega arith in
      a.by b.steps made ∙ b.cuts (made + a.steps) ∙ ap (λ i. record {
        ending = Steps;
        output = w.output;
        left = w.left;
        events = told by w;
        made = i;
      }) p;
}
