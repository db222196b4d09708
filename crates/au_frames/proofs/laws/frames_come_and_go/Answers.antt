use Rattle.au_frames.proofs.EntryLemmas.{frames_begin}
use Rattle.au_frames.proofs.ReturnLemmas.{frames_end}
use Rattle.au_frames.proofs.laws.frames_come_and_go.Goals as goal

pub returns-clause-begun : goal.returns-clause-begun
returns-clause-begun g c = λ types owner acts fs under m w. frames_begin _ types owner acts fs under m w

pub returns-clause-ended : goal.returns-clause-ended
returns-clause-ended g c = λ types owner acts fs under m w. frames_end _ types owner acts fs under m w
