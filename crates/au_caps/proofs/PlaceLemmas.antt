-- Bodies stand in modules of the program.
use Rattle.std.proofs.Common.{◌≡◌, ℕ, suc, ◌+◌, ◌<◌, ◌⊎◌, inl, inr, List, [], ◌∷◌, Option, None, Some, length}
use Rattle.std.proofs.Common.{map}
use Rattle.std.proofs.Common.{sym, ap, ◌∙◌, subst, arith}
use Rattle.std.proofs.lemmas.List.{length-map}
use Rattle.au_syntax.specs.Modules.{Constrained, function_body, instance_body}
use Rattle.au_syntax.specs.Plain.{Bytes}
use Rattle.au_modules.specs.Programs.{ModuleParts}
use Rattle.au_names.proofs.AmongLemmas.{Among, among, among-append, among-flat_map}
use Rattle.au_typing.specs.Trees.{NotedDeclaration, NotedEntry, NotedMethod, NotedParts, erase_parts}
use Rattle.au_noting_programs.specs.Faults.{IsDerived}
use Rattle.au_caps_lists.specs.Bodies.{Bodied, Home, all_bodied, all_bodied_from, bodied_in, bodied_of_file}
use Rattle.au_caps_lists.specs.Bodies.{method_bodied}
use Rattle.au_caps_lists.specs.Views.{AreWithin}

methods_at : (place : ℕ) (home : Home) (generics : List (Constrained Bytes)) (methods : List NotedMethod)
    (b : Bodied)
    → Among b (map (method_bodied place home generics) methods) → b.place ≡ place
methods_at place home generics [] b m = absurd m
methods_at place home generics (x ∷ xs) b (inl here) = ap (λ (d : Bodied). d.place) (sym here)
methods_at place home generics (x ∷ xs) b (inr later) = methods_at place home generics xs b later

declared_at : (place : ℕ) (d : NotedDeclaration) (b : Bodied) → Among b (bodied_in place d) → b.place ≡ place
declared_at place (function_body at generics header block stop) b (inl here) = ap (λ (d : Bodied). d.place)
    (sym here)
declared_at place (function_body at generics header block stop) b (inr none) = absurd none
declared_at place (instance_body at generics class t methods) b m =
    methods_at place (record { class = class.name; of = t }) generics methods b m
declared_at place other b m = absurd m

file_at : (place : ℕ) (file : Option NotedEntry) (b : Bodied) → Among b (bodied_of_file place file) → b.place
    ≡ place
file_at place None b m = absurd m
file_at place (Some file) b m =
    let found = among-flat_map (bodied_in place) file.tree.declarations b m in declared_at place found.0 b
    found.2

within_from : (place : ℕ) (ms : List NotedParts) (b : Bodied) → Among b (all_bodied_from place ms)
    → b.place < place + length ms
unfolding all_bodied_from
within_from place [] b m = absurd m
within_from place (x ∷ xs) b m =
    by (among-append (bodied_of_file place x.body) (all_bodied_from (place + 1) xs) b m)
    (within_from (place + 1) xs b)
  where
    by : Among b (bodied_of_file place x.body) ⊎ Among b (all_bodied_from (place + 1) xs)
        → (Among b (all_bodied_from (place + 1) xs) → b.place < place + 1 + length xs)
        → b.place < place + suc (length xs)
    by (inl here) rest = let at = file_at place x.body b here in omega (arith, at)
    by (inr later) rest = let less = rest later in omega (arith, less)

pub all_within : (program : List ModuleParts) (noted : List NotedParts) → IsDerived program noted
    → AreWithin program (all_bodied noted)
all_within program noted derived b is =
    let less = within_from 0 noted b (among (all_bodied noted) b is) in
    let long : length noted ≡ length program =
    sym (length-map noted erase_parts) ∙ ap (λ (ms : List ModuleParts). length ms) derived.erased in
    omega (arith, less, long)

-- the same of what the code holds of them
pub bodies_within : (program : List ModuleParts) (noted : List NotedParts) (bs : List Bodied)
    → IsDerived program noted
    → bs ≡ all_bodied noted → AreWithin program bs
bodies_within program noted bs derived same =
    subst (λ (l : List Bodied). AreWithin program l) (sym same) (all_within program noted derived)
