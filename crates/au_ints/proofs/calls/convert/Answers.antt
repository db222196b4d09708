-- Each kind converts by its bits and its sign.
use Rattle.au_base.specs.declared.kinds.IntKind.TheVariants.{Nat8, Nat16, Nat32, Nat64, Int8, Int16, Int32}
use Rattle.au_base.specs.declared.kinds.IntKind.TheVariants.{Int64, Index}
use Rattle.au_ints.proofs.CallLemmas.{converted_at}
use Rattle.au_ints.proofs.Traps.{converted_is}
use Rattle.au_ints.proofs.Turns.{kind_shape}
use Rattle.au_ints.proofs.calls.convert.Goals as goal

pub convert-requires : goal.convert-requires
convert-requires c = kind_shape Nat8

pub returns-in-Nat8 : goal.returns-in-Nat8
returns-in-Nat8 c =
    let kept = converted_at c.args.to Nat8 c.args.a c.convert.result c.in-Nat8.is c.ranges.a c.convert.ensures in
    record { exactly = kept; value = converted_is c.args.to c.args.a c.convert.result kept }

pub convert-requires-in-Nat16 : goal.convert-requires-in-Nat16
convert-requires-in-Nat16 c = kind_shape Nat16

pub returns-in-Nat16 : goal.returns-in-Nat16
returns-in-Nat16 c =
    let kept = converted_at c.args.to Nat16 c.args.a c.convert-in-Nat16.result c.in-Nat16.is c.ranges.a
    c.convert-in-Nat16.ensures in
    record { exactly = kept; value = converted_is c.args.to c.args.a c.convert-in-Nat16.result kept }

pub convert-requires-in-Nat32 : goal.convert-requires-in-Nat32
convert-requires-in-Nat32 c = kind_shape Nat32

pub returns-in-Nat32 : goal.returns-in-Nat32
returns-in-Nat32 c =
    let kept = converted_at c.args.to Nat32 c.args.a c.convert-in-Nat32.result c.in-Nat32.is c.ranges.a
    c.convert-in-Nat32.ensures in
    record { exactly = kept; value = converted_is c.args.to c.args.a c.convert-in-Nat32.result kept }

pub convert-requires-in-Nat64 : goal.convert-requires-in-Nat64
convert-requires-in-Nat64 c = kind_shape Nat64

pub returns-in-Nat64 : goal.returns-in-Nat64
returns-in-Nat64 c =
    let kept = converted_at c.args.to Nat64 c.args.a c.convert-in-Nat64.result c.in-Nat64.is c.ranges.a
    c.convert-in-Nat64.ensures in
    record { exactly = kept; value = converted_is c.args.to c.args.a c.convert-in-Nat64.result kept }

pub convert-requires-in-Int8 : goal.convert-requires-in-Int8
convert-requires-in-Int8 c = kind_shape Int8

pub returns-in-Int8 : goal.returns-in-Int8
returns-in-Int8 c =
    let kept = converted_at c.args.to Int8 c.args.a c.convert-in-Int8.result c.in-Int8.is c.ranges.a
    c.convert-in-Int8.ensures in
    record { exactly = kept; value = converted_is c.args.to c.args.a c.convert-in-Int8.result kept }

pub convert-requires-in-Int16 : goal.convert-requires-in-Int16
convert-requires-in-Int16 c = kind_shape Int16

pub returns-in-Int16 : goal.returns-in-Int16
returns-in-Int16 c =
    let kept = converted_at c.args.to Int16 c.args.a c.convert-in-Int16.result c.in-Int16.is c.ranges.a
    c.convert-in-Int16.ensures in
    record { exactly = kept; value = converted_is c.args.to c.args.a c.convert-in-Int16.result kept }

pub convert-requires-in-Int32 : goal.convert-requires-in-Int32
convert-requires-in-Int32 c = kind_shape Int32

pub returns-in-Int32 : goal.returns-in-Int32
returns-in-Int32 c =
    let kept = converted_at c.args.to Int32 c.args.a c.convert-in-Int32.result c.in-Int32.is c.ranges.a
    c.convert-in-Int32.ensures in
    record { exactly = kept; value = converted_is c.args.to c.args.a c.convert-in-Int32.result kept }

pub convert-requires-in-Int64 : goal.convert-requires-in-Int64
convert-requires-in-Int64 c = kind_shape Int64

pub returns-in-Int64 : goal.returns-in-Int64
returns-in-Int64 c =
    let kept = converted_at c.args.to Int64 c.args.a c.convert-in-Int64.result c.in-Int64.is c.ranges.a
    c.convert-in-Int64.ensures in
    record { exactly = kept; value = converted_is c.args.to c.args.a c.convert-in-Int64.result kept }

pub convert-requires-in-Index : goal.convert-requires-in-Index
convert-requires-in-Index c = kind_shape Index

pub returns-in-Index : goal.returns-in-Index
returns-in-Index c =
    let kept = converted_at c.args.to Index c.args.a c.convert-in-Index.result c.in-Index.is c.ranges.a
    c.convert-in-Index.ensures in
    record { exactly = kept; value = converted_is c.args.to c.args.a c.convert-in-Index.result kept }
