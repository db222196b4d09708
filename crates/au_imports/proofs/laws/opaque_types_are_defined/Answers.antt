use Rattle.au_imports.proofs.OpaqueLemmas.{opaque_defined}
use Rattle.au_imports.proofs.laws.opaque_types_are_defined.Goals as goal

pub returns : goal.returns
returns c = λ program at m interface body s name good here first second stands is opaque.
    opaque_defined program at m interface body s name good here first second stands is opaque
