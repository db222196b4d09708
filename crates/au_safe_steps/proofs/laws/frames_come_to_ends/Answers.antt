use Rattle.au_safe_steps.proofs.LeavingLemmas.{frames_have_room, others_stay, tokens_end_to}
use Rattle.au_safe_steps.proofs.laws.frames_come_to_ends.Goals as goal

pub returns-clause-ended : goal.returns-clause-ended
returns-clause-ended c = tokens_end_to

pub returns-clause-stay : goal.returns-clause-stay
returns-clause-stay c = others_stay

pub returns-clause-room : goal.returns-clause-room
returns-clause-room c = frames_have_room
