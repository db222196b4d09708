use Rattle.au_lending.proofs.PutLemmas.{put_behind_name, put_in_name}
use Rattle.au_lending.proofs.laws.parts_are_put.Goals as goal

pub returns-clause-put : goal.returns-clause-put
returns-clause-put c = λ types clock scope act hold type v u under s m core forms cases lawful frame x is path leads free.
    put_in_name types forms cases lawful clock scope act hold type v u under s m core free frame x is path leads

pub returns-clause-behind : goal.returns-clause-behind
returns-clause-behind c = λ types clock scope act hold type v u under s m core forms cases lawful frame x is t z typed scoped
    path leads free.
    put_behind_name types forms cases lawful clock scope act hold type v u under s m core free frame x is t z typed scoped
    path leads
