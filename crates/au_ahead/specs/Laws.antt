-- What good lives give.
use Rattle.std.specs.Prelude.{◌≡◌, Bool, false}
use Rattle.au_syntax.specs.Plain.{Bytes, PlainStatements}
use Rattle.au_lives.specs.declared.lives.Sort.{Sort}
use Rattle.au_lives.specs.Lives.{GoodLife, Hold, unlent, hidden, going, verdict}
use Rattle.au_lives.specs.Mentions.{Counts, plus, one_consumption, one_write_borrow, one_read_borrow}
use Rattle.au_lives.specs.Mentions.{one_look}
use Rattle.au_ahead.specs.Ahead.{AheadAll, Ends}
use Rattle.au_ahead.specs.Ready.{Stand, away, ready, shut, watched, stand_of, Ready, IsOpen}

-- A variable with a good life over a block gets through the block, from where it isn't consumed, and is
-- then as its sort asks.
abbrev pub GoodLivesAreAhead : Type 0
GoodLivesAreAhead =
    (x : Bytes) (sort : Sort) (b : PlainStatements) → GoodLife x sort b
    → AheadAll x sort b unlent (Ends sort) false

-- A step that doesn't break a life has its counts still to come where it begins.
abbrev pub StepsAreReady : Type 0
StepsAreReady =
    (h : Hold) (k : Counts) (spent after : Bool) → (h ≡ hidden → ⊥) → verdict h k spent ≡ going after
    → Ready (stand_of h spent) k

-- What each action asks of a variable: to be consumed or lent to write it is to be ready, to be lent to
-- read or looked at it is to be open. Behind it stands what comes next.
abbrev pub ActionsAreReady : Type 0
ActionsAreReady =
    (st : Stand) (r : Counts)
    → (Ready st (plus one_consumption r) → (st ≡ ready) × Ready away r)
    × (Ready st (plus one_write_borrow r) → (st ≡ ready) × Ready shut r)
    × (Ready st (plus one_read_borrow r) → IsOpen st × Ready watched r)
    × (Ready st (plus one_look r) → IsOpen st × Ready st r)

-- A part that isn't evaluated takes nothing from what comes behind it.
abbrev pub PartsMayBeSkipped : Type 0
PartsMayBeSkipped = (st : Stand) (k r : Counts) → Ready st (plus k r) → Ready st r
