-- No limit is told of a program that passes none.
use Rattle.std.proofs.Common.{◌≡◌, Bool, true, false, List, Result, Err, sym, ap, ◌∙◌, subst, true≢false}
use Rattle.au_base.specs.declared.limits.Limit.{Limit}
use Rattle.au_syntax.specs.Plain.{Bytes}
use Rattle.au_modules.specs.Programs.{ModuleParts}
use Rattle.au_names.specs.declared.targets.Target.{Target}
use Rattle.au_typing.specs.Outsides.{outside_of}
use Rattle.au_typing.specs.Trees.{NotedParts}
use Rattle.au_typing.proofs.ProgramLemmas.{two_are_one}
use Rattle.au_lowering.specs.Faults.{IsDerived}
use Rattle.au_closing.specs.Entries.{begins, entry_of}
use Rattle.au_lowering.specs.ClosedPrograms.Answers.{ClosesWithin, PassesNoLimit, TellsNoLimit}
use Rattle.au_lowering.specs.Programs.{ClosedProgram}
use Rattle.au_lowering.specs.CloseFault.{CloseFault}
use Rattle.au_lowering.specs.CloseFault.TheVariants as closing
use Rattle.au_lowering.specs.ClosedProgram as found
use Rattle.au_lowering.proofs.ClosedLemmas.{one_program}
use Rattle.au_lowering.specs.Closed.{is_too_long}

-- for a program, as it is and as it was closed, with its notes, and an entry
module _ (program whole : List ModuleParts) (same : whole ≡ program) (mine : List NotedParts)
    (derived : IsDerived program mine) (owner name : Bytes) where
  -- what closes with any notes of the program closes with these
  closes_so : (noted : List NotedParts) (c : ClosedProgram) → IsDerived program noted
      → ClosesWithin program noted owner name c → ClosesWithin program mine owner name c
  closes_so noted c derives closes =
      subst (λ n. ClosesWithin program n owner name c)
      (two_are_one (outside_of program) program noted mine derives derived) closes

  -- closing tells no limit of it
  pub close_tells : (r : Result found.ClosedProgram CloseFault) (limit : Limit)
      → r ≡ Err (closing.Limit limit)
      → ((entry : Target) (root : Bool) → entry_of whole owner name ≡ begins entry root
      → PassesNoLimit whole mine entry → TellsNoLimit r)
      → (noted : List NotedParts) (c : ClosedProgram) → IsDerived program noted
      → ClosesWithin program noted owner name c → ⊥
  close_tells r limit is exact noted c derives closes =
      let so : ClosesWithin whole mine owner name c =
      subst (λ p. ClosesWithin p mine owner name c) (sym same) (closes_so noted c derives closes) in
      subst TellsNoLimit is (exact so.closes.entry c.root so.closes.begins_there so.within)

  -- nor does lowering, where the code isn't too long
  pub lower_tells : (one : ClosedProgram) → ClosesWithin whole mine owner name one
      → is_too_long one ≡ true
      → (noted : List NotedParts) (c : ClosedProgram) → IsDerived program noted
      → ClosesWithin program noted owner name c → is_too_long c ≡ false → ⊥
  lower_tells one within long noted c derives closes short =
      let so = closes_so noted c derives closes in
      let here : ClosesWithin program mine owner name one =
      subst (λ p. ClosesWithin p mine owner name one) same within in
      let equal : one ≡ c = one_program program mine owner name one c here.closes so.closes in
      true≢false (sym long ∙ ap is_too_long equal ∙ short)
