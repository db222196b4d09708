use Rattle.au_sound_blocks.proofs.RunLemmas.{all_safe}
use Rattle.au_sound_blocks.proofs.laws.bodies_are_safe.Goals as goal

pub returns : goal.returns
returns g c = λ types owner permits see known invoke laws key ways calls_safe loose result below base fs sizes size
    running
    waiting depth number scope block own h names under w ticks ahead runs room going.
    all_safe types owner permits ways laws key loose result below base fs sizes size running see known invoke calls_safe
    waiting depth block number scope own (λ g. ⊥) h names under w ticks ahead runs room going
