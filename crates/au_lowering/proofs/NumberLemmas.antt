-- What instructions name, one by one.
use Rattle.std.proofs.Common.{◌≡◌, ℕ, List, [], ◌∷◌, ◌++◌, map, refl, sym, ap, ◌∙◌}
use Rattle.std.specs.Str.{bytes_eq}
use Rattle.au_type_texts.specs.Keys.{key_of}
use Rattle.au_lowered.specs.Drafts.{Draft, plain, pushes_text, makes_case, ships_birth}
use Rattle.au_lowered.specs.Programs.{texts_named, types_named}
use Rattle.au_lowered.proofs.PlacedLemmas.{texts_both, types_both}
use Rattle.au_graphs.specs.Reached.{adds}
use Rattle.au_graphs.proofs.HasLemmas.{adds_both}
use Rattle.std.proofs.lemmas.List.{map-append}
use Rattle.au_syntax.specs.Plain.{Bytes}

-- the texts of an instruction and of those behind it
pub more_texts : (ks : List Bytes) (d : Draft) (rest : List Draft)
    → adds bytes_eq (adds bytes_eq ks (texts_named (d ∷ []))) (texts_named rest)
    ≡ adds bytes_eq ks (texts_named (d ∷ rest))
more_texts ks (plain instr) rest = refl
more_texts ks (pushes_text text) rest = refl
more_texts ks (makes_case of tag order home) rest = refl
more_texts ks (ships_birth call of order) rest = refl

-- its types
pub more_types : (ks : List (List ℕ)) (d : Draft) (rest : List Draft)
    → adds bytes_eq (adds bytes_eq ks (map key_of (types_named (d ∷ []))))
    (map key_of (types_named rest)) ≡ adds bytes_eq ks (map key_of (types_named (d ∷ rest)))
more_types ks (plain instr) rest = refl
more_types ks (pushes_text text) rest = refl
more_types ks (makes_case of tag order home) rest = refl
more_types ks (ships_birth call of order) rest = refl

-- the texts of a function and of those behind it
pub function_texts : (ks : List Bytes) (a b : List Draft)
    → adds bytes_eq (adds bytes_eq ks (texts_named a)) (texts_named b)
    ≡ adds bytes_eq ks (texts_named (a ++ b))
function_texts ks a b = sym (adds_both bytes_eq ks (texts_named a) (texts_named b)) ∙ ap
    (adds bytes_eq ks) (sym (texts_both a b))

-- their types
pub function_types : (ks : List (List ℕ)) (a b : List Draft)
    → adds bytes_eq (adds bytes_eq ks (map key_of (types_named a))) (map key_of (types_named b))
    ≡ adds bytes_eq ks (map key_of (types_named (a ++ b)))
function_types ks a b =
    sym (adds_both bytes_eq ks (map key_of (types_named a)) (map key_of (types_named b)))
    ∙ ap (adds bytes_eq ks)
    (sym (map-append key_of (types_named a) (types_named b)) ∙ ap (map key_of) (sym (types_both a b)))
