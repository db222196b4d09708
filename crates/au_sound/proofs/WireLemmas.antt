-- The laws of actions, gathered where types have their forms.
use Rattle.std.proofs.Common.{ℕ, List, Option}
use Rattle.au_type_texts.specs.Types.{ClosedType}
use Rattle.au_types.specs.Types as type
use Rattle.au_memory.specs.Loans.{Types}
use Rattle.au_safe_ships.specs.Sound.{AreTyped}
use Rattle.au_safe_ships.proofs.BehindLemmas.{readers_read_well, writers_put_well, writers_read_well}
use Rattle.au_safe_ships.proofs.CloseLemmas.{tokens_begin, tokens_end}
use Rattle.au_safe_ships.proofs.EnterLemmas.{enters_well, leaves_well}
use Rattle.au_safe_ships.proofs.LendLemmas.{lends_well, reads_well, relends_well}
use Rattle.au_safe_ships.proofs.MakeLemmas.{apart_well, copies_well, makes_free_well, makes_linear_well}
use Rattle.au_safe_ships.proofs.NameLemmas.{holds_well, looks_well, moves_well, sets_well}
use Rattle.au_safe_ships.proofs.TellLemmas.{tells_readers_well, tells_values_well, tells_writers_well}
use Rattle.au_safe_ships.proofs.BeginningLemmas.{counts_lying, exits_well, finishes_well, roots_come_well, starts_well}
use Rattle.au_safe_ships.proofs.ComingLemmas.{drops_well, numbers_are_told, numbers_go_on, plains_come_well}
use Rattle.au_safe_ships.proofs.ComingLemmas.{plains_drop_well, reorders_well, tells_well}
use Rattle.au_safe_ships.proofs.FillingLemmas.{empties_well, fills_well}
use Rattle.au_safe_ships.proofs.SafeSteps.NamedLemmas.{fields_are_bound, labels_are_ordered}
use Rattle.au_safe_ships.proofs.ReachingLemmas.{copies_writers_well, refers_well}
use Rattle.au_safe_ships.proofs.NamedLemmas.{empty_names_are_free, no_named_statics, no_statics, writers_look_well}
use Rattle.au_safe_ships.proofs.OperatedLemmas.{compares_well, computes_well, equates_well, negates_well}
use Rattle.au_safe_ships.proofs.ShippedLemmas.{ships_well}
use Rattle.au_sound_blocks.specs.Actions.{ActionsAreSafe}
use Rattle.au_sound_blocks.specs.Steps.{StepsAreSafe}
use Rattle.au_sound.specs.Runs.{RunsAreSafe}

module _ (types : Types) (owner : ClosedType → Option (List ℕ)) (typed : AreTyped types) where
  actions_are_safe : ActionsAreSafe types owner
  actions_are_safe = record {
    typed = typed;
    told = λ acts fs sizes under w. tells_well types owner acts fs sizes under w;
    plain = λ acts fs sizes under w. plains_come_well types owner acts fs sizes under w;
    truths = λ acts fs sizes under w v state.
        plains_drop_well types owner acts fs sizes under w typed v type.truth tt state;
    statics = λ acts fs sizes under w. no_statics types owner acts fs sizes under w typed;
    begun = λ acts fs sizes under w. tokens_begin types owner acts fs sizes under w;
    ended = λ acts fs sizes under w. tokens_end types owner acts fs sizes under w;
    counted = λ acts fs sizes under w. counts_lying types owner acts fs sizes under w;
    labels = labels_are_ordered;
    reordered = λ acts fs sizes under w. reorders_well types owner acts fs sizes under w;
    copied = λ acts fs sizes under w ticks. copies_well types owner acts fs sizes under w ticks;
    writers_copied = λ acts fs sizes under w ticks. copies_writers_well types owner acts fs sizes under w ticks typed;
    computed = λ acts fs sizes under w ticks. computes_well types owner acts fs sizes under w ticks typed;
    compared = λ acts fs sizes under w ticks. compares_well types owner acts fs sizes under w ticks typed;
    equated = λ acts fs sizes under w ticks. equates_well types owner acts fs sizes under w ticks typed;
    negated = λ acts fs sizes under w ticks. negates_well types owner acts fs sizes under w ticks typed;
    shipped = λ acts fs sizes under w ticks. ships_well types owner acts fs sizes under w ticks typed;
    made_free = λ acts fs sizes under w ticks. makes_free_well types owner acts fs sizes under w ticks;
    made_linear = λ acts fs sizes under w ticks. makes_linear_well types owner acts fs sizes under w ticks;
    looked = λ acts f fs sizes size under w ticks. looks_well types owner acts f fs sizes size under w ticks;
    moved = λ acts f fs sizes size under w ticks. moves_well types owner acts f fs sizes size under w ticks;
    lent = λ acts f fs sizes size under w ticks. lends_well types owner acts f fs sizes size under w ticks;
    read = λ acts f fs sizes size under w ticks. reads_well types owner acts f fs sizes size under w ticks;
    relent = λ acts f fs sizes size under w ticks. relends_well types owner acts f fs sizes size under w ticks;
    writers_read = λ acts f fs sizes size under w ticks. writers_read_well types owner acts f fs sizes size under w
        ticks;
    readers_read = λ acts f fs sizes size under w ticks. readers_read_well types owner acts f fs sizes size under w
        ticks;
    named_statics = λ acts f fs sizes size under w. no_named_statics types owner acts f fs sizes size under w typed;
    writers_looked = λ acts f fs sizes size under w ticks.
        writers_look_well types owner acts f fs sizes size under w ticks typed;
    parts = λ acts f fs sizes size under w ticks. refers_well types owner acts f fs sizes size under w ticks typed;
  }

  steps_are_safe : StepsAreSafe types owner
  steps_are_safe = record {
    actions = actions_are_safe;
    fields = fields_are_bound;
    numbers = numbers_go_on;
    renamed = λ acts fs sizes under w. empty_names_are_free types owner acts fs sizes under w;
    dropped = λ acts fs sizes under w. drops_well types owner acts fs sizes under w;
    numbered = λ acts fs sizes under w. numbers_are_told types owner acts fs sizes under w;
    apart = λ acts fs sizes under w ticks. apart_well types owner acts fs sizes under w ticks;
    values = λ acts fs sizes under w ticks. tells_values_well types owner acts fs sizes under w ticks;
    writers = λ acts fs sizes under w ticks. tells_writers_well types owner acts fs sizes under w ticks;
    readers = λ acts fs sizes under w ticks. tells_readers_well types owner acts fs sizes under w ticks;
    held = λ acts f fs sizes size under w ticks. holds_well types owner acts f fs sizes size under w ticks;
    set = λ acts f fs sizes size under w ticks. sets_well types owner acts f fs sizes size under w ticks;
    put = λ acts f fs sizes size under w ticks. writers_put_well types owner acts f fs sizes size under w ticks;
    filled = λ acts f fs sizes size under w. fills_well types owner acts f fs sizes size under w;
    emptied = λ acts f fs sizes size under w. empties_well types owner acts f fs sizes size under w;
  }

  pub runs_are_safe : RunsAreSafe types owner
  runs_are_safe = record {
    steps = steps_are_safe;
    entered = λ acts fs sizes under w. enters_well types owner acts fs sizes under w;
    left = λ acts fs sizes under w. leaves_well types owner acts fs sizes under w;
    rooted = λ acts fs sizes under w. roots_come_well types owner acts fs sizes under w;
    exits = λ acts fs sizes under w. exits_well types owner acts fs sizes under w;
    starts = starts_well;
    finishes = finishes_well;
  }
