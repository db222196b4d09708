-- The declared types of a program with what their fields name, one row more at a time.
use Rattle.std.proofs.Common.{◌≡◌, ℕ, ◌+◌, ◌<◌, List, [], ◌∷◌, ◌++◌, length, map, take, get_or, Some, sym, ap, ◌∙◌}
use Rattle.std.specs.Prelude.{slice_get}
use Rattle.std.proofs.lemmas.List.{map_push, take_more}
use Rattle.std.proofs.lemmas.Option.{get_or_from_slice_get, slice_get_within}
use Rattle.au_types.specs.declared.headings.Head.{Head}
use Rattle.au_types.specs.declared.types.DeclAt.{DeclAt}
use Rattle.au_modules.specs.Programs.{ModuleParts}
use Rattle.au_names.specs.HeadsOf.{heads_of}
use Rattle.au_formed.specs.declared.namings.Naming.{Naming}
use Rattle.au_caps_types.specs.Naming.{names_of, naming_of}

pub more_rows : (program : List ModuleParts) (heads : List (DeclAt × Head)) (i : ℕ) (row : DeclAt × Head)
    → heads ≡ heads_of program → slice_get heads i ≡ Some row → (list : List Naming) (names : List DeclAt)
    → list ≡ map (naming_of program) (take i (heads_of program)) → names ≡ names_of program row.0
    → list ++ record { of = row.0; names = names } ∷ [] ≡ map (naming_of program) (take (i + 1) (heads_of program))
more_rows program heads i row same is list names before named =
    let all = heads_of program in
    let there : slice_get (heads_of program) i ≡ Some row = ap (λ (hs : List (DeclAt × Head)). slice_get hs i) (sym same) ∙ is in
    let within : i < length (heads_of program) = slice_get_within (heads_of program) i row there in
    let got : get_or (heads_of program) i row ≡ row = get_or_from_slice_get (heads_of program) i row row there in
    ap (λ (l : List Naming). l ++ record { of = row.0; names = names } ∷ []) before
    ∙ ap (λ (ns : List DeclAt). map (naming_of program) (take i all) ++ record { of = row.0; names = ns } ∷ []) named
    ∙ sym (ap (map (naming_of program)) (take_more all i row within
    ∙ ap (λ (x : DeclAt × Head). take i all ++ x ∷ []) got)
    ∙ map_push (naming_of program) (take i all) row)
