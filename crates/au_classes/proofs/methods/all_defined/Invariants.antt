use Rattle.std.proofs.Common.{◌≡◌, drop}
use Rattle.std.specs.List.{list_all}
use Rattle.au_types.specs.WrittenViews.{meant_in}
use Rattle.au_classes.specs.InstanceViews.{methods_of}
use Rattle.au_classes.specs.Methods.{is_defined}
use Rattle.au_classes.specs.Views.{headers_of, wanted_in}
use Rattle.au_classes.proofs.methods.all_defined.Given as goal

-- all so far are defined, so those that are left decide
abbrev pub invariant-loop-one : goal.invariant-loop-one
invariant-loop-one l =
    list_all (is_defined (wanted_in l.class l.s) (meant_in l.own) (methods_of l.methods.items)) (headers_of l.one-items)
    ≡ list_all (is_defined (wanted_in l.class l.s) (meant_in l.own) (methods_of l.methods.items))
    (headers_of (drop l.one-index l.one-items))
