-- What the table says of a step, and what the step does to a fate.
use Rattle.std.proofs.Common.{◌≡◌, ◌==◌, Bool, true, false, not, ◌||◌, refl, ap, ◌∙◌, if◌then◌else◌}
use Rattle.std.proofs.lemmas.Bool.{and_parts}
use Rattle.au_lives.specs.declared.lives.LifeKind.TheVariants as kinds
use Rattle.au_lives.specs.Lives.{Hold, unlent, read_lent, write_lent, hidden, is_quiet, is_exactly}
use Rattle.au_lives.specs.Lives.{is_untouched, is_ordinary, going, broken, verdict}
use Rattle.au_lives.specs.Mentions.{Counts, counts}
use Rattle.au_lives.specs.declared.steps.Verdict.TheVariants.{Stay, Spend, Bad}
use Rattle.au_lives.specs.Judging.{state_of, Leads}
use Rattle.au_lives.specs.Steps.{verdict_on}
use Rattle.au_lives.proofs.GoodLemmas.{quiet_of}

quiet_kept : (k : Counts) → is_quiet k ≡ true → (k.consumed == 0) ≡ true
quiet_kept k h = (and_parts (k.consumed == 0) (k.written == 0) h).0

quiet_ordinary : (k : Counts) → is_quiet k ≡ true → is_ordinary k ≡ true
quiet_ordinary k h = ap (λ b. b || (is_exactly (counts 0 1 0 0) k || is_exactly (counts 1 0 0 0) k)) h

shut_leads : (b : Bool) →
    Leads (if b then Stay else Bad) true (if b then going true else broken kinds.Again)
shut_leads true = refl
shut_leads false = (kinds.Again, refl)

live_leads : (a c : Bool) →
    Leads (if a then (if c then Stay else Spend) else Bad) false
    (if a then going (not c) else broken kinds.Clash)
live_leads true true = refl
live_leads true false = refl
live_leads false c = (kinds.Clash, refl)

lent_leads : (q a c : Bool) → (q ≡ true → a ≡ true) → (q ≡ true → c ≡ true) →
    Leads (if q then Stay else Bad) false
    (if a then (if q then going (not c) else broken kinds.Borrowed) else broken kinds.Clash)
lent_leads true a c g h =
    ap (λ b. if b then going (not c) else broken kinds.Clash) (g refl) ∙ ap (λ b. going (not b)) (h refl)
lent_leads false true c g h = (kinds.Borrowed, refl)
lent_leads false false c g h = (kinds.Clash, refl)

pub judged : (h : Hold) (k : Counts) (spent : Bool) →
    Leads (verdict_on (state_of h spent) k) spent (verdict h k spent)
judged h k true = shut_leads (is_untouched k)
judged unlent k false = live_leads (is_ordinary k) (k.consumed == 0)
judged read_lent k false =
    lent_leads (is_quiet k) (is_ordinary k) (k.consumed == 0) (quiet_ordinary k) (quiet_kept k)
judged write_lent k false =
    lent_leads (is_untouched k) (is_ordinary k) (k.consumed == 0)
    (λ u. quiet_ordinary k (quiet_of k u)) (λ u. quiet_kept k (quiet_of k u))
judged hidden k false = live_leads (is_ordinary k) (k.consumed == 0)
