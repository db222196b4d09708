-- The rows of a step are the rules.
use Rattle.std.proofs.Common.{◌≡◌, ◌≢◌, ℕ, zero, suc, ◌==◌, Bool, true, false, ◌||◌, ◌&&◌, refl, sym, ap, ◌∙◌}
use Rattle.std.proofs.Common.{arith, if◌then◌else◌}
use Rattle.std.proofs.lemmas.Bool.{eqb-true}
use Rattle.au_lives.specs.Mentions.{Counts}
use Rattle.au_lives.specs.declared.steps.State.{State}
use Rattle.au_lives.specs.declared.steps.State.TheVariants.{Live, Read, Shut}
use Rattle.au_lives.specs.declared.steps.Verdict.{Verdict}
use Rattle.au_lives.specs.declared.steps.Verdict.TheVariants.{Stay, Spend, Bad}
use Rattle.au_lives.specs.declared.tallies.Few.{Few}
use Rattle.au_lives.specs.declared.tallies.Few.TheVariants.{Zero, One, More}
use Rattle.au_lives.specs.declared.tallies.Tally.{Tally}
use Rattle.au_lives.specs.Tallies.{few, tally_of}
use Rattle.au_lives.specs.Steps.{row_by, row, verdict_on}

abbrev is_zero : Few → Bool
is_zero Zero = true
is_zero One = false
is_zero More = false

abbrev is_one : Few → Bool
is_one Zero = false
is_one One = true
is_one More = false

differ : (m n : ℕ) (b : Bool) → (m == n) ≡ b → m ≢ n → b ≡ false
differ m n true h other = absurd (other (eqb-true m n h))
differ m n false h other = refl

zero_few : (n : ℕ) → (n == 0) ≡ is_zero (few n)
zero_few zero = refl
zero_few (suc zero) = refl
zero_few (suc (suc n)) = differ (suc (suc n)) 0 (suc (suc n) == 0) refl (omega arith)

one_few : (n : ℕ) → (n == 1) ≡ is_one (few n)
one_few zero = refl
one_few (suc zero) = refl
one_few (suc (suc n)) = differ (suc (suc n)) 1 (suc (suc n) == 1) refl (omega arith)

-- the rules, over counts up to two
abbrev quiet : Few → Few → Bool
quiet c w = is_zero c && is_zero w

abbrev lent : Few → Few → Few → Few → Bool
lent c w r l = is_zero c && (is_one w && (is_zero r && is_zero l))

abbrev spent : Few → Few → Few → Few → Bool
spent c w r l = is_one c && (is_zero w && (is_zero r && is_zero l))

abbrev untouched : Few → Few → Few → Few → Bool
untouched c w r l = is_zero c && (is_zero w && (is_zero r && is_zero l))

abbrev ruled : State → Few → Few → Few → Few → Verdict
ruled Live c w r l = if quiet c w
    || (lent c w r l || spent c w r l) then (if is_zero c then Stay else Spend) else Bad
ruled Read c w r l = if quiet c w then Stay else Bad
ruled Shut c w r l = if untouched c w r l then Stay else Bad

rows : (s : State) (c w r l : Few) → row_by s c w r l ≡ ruled s c w r l
rows Live Zero Zero r l = refl
rows Live Zero One Zero Zero = refl
rows Live Zero One Zero One = refl
rows Live Zero One Zero More = refl
rows Live Zero One One l = refl
rows Live Zero One More l = refl
rows Live Zero More r l = refl
rows Live One Zero Zero Zero = refl
rows Live One Zero Zero One = refl
rows Live One Zero Zero More = refl
rows Live One Zero One l = refl
rows Live One Zero More l = refl
rows Live One One r l = refl
rows Live One More r l = refl
rows Live More w r l = refl
rows Read Zero Zero r l = refl
rows Read Zero One r l = refl
rows Read Zero More r l = refl
rows Read One w r l = refl
rows Read More w r l = refl
rows Shut Zero Zero Zero Zero = refl
rows Shut Zero Zero Zero One = refl
rows Shut Zero Zero Zero More = refl
rows Shut Zero Zero One l = refl
rows Shut Zero Zero More l = refl
rows Shut Zero One r l = refl
rows Shut Zero More r l = refl
rows Shut One w r l = refl
rows Shut More w r l = refl

agree : (s : State) (k : Counts) → ruled s (few k.consumed) (few k.written) (few k.read) (few k.looked)
    ≡ verdict_on s k
agree Live k = rw (
  zero_few k.consumed,
  zero_few k.written,
  zero_few k.read,
  zero_few k.looked,
  one_few k.consumed,
  one_few k.written,
) refl
agree Read k = rw (zero_few k.consumed, zero_few k.written) refl
agree Shut k = rw (zero_few k.consumed, zero_few k.written, zero_few k.read, zero_few k.looked) refl

pub step_rows : (s : State) (c : Tally) (v : Verdict) → v ≡ row s c → (k : Counts) → tally_of k ≡ c → v
    ≡ verdict_on s k
step_rows s c v h k e =
    h ∙ ap (row s) (sym e) ∙ rows s (few k.consumed) (few k.written) (few k.read) (few k.looked) ∙ agree s k
