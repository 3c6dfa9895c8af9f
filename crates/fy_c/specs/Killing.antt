-- orders by numbers, and what is told of a kill
use Rattle.std.specs.Prelude.{◌≡◌, ◌≢◌, ◌<◌, ◌≤◌, ℕ, List, IsTrue, Result, Ok}
use Rattle.fy_locality.specs.Name.{is_name}
use Rattle.fy_locality.specs.declared.key.Key.{Key}
use Rattle.fy_kinds.specs.declared.kind.Kind.{Kind}
use Rattle.fy_kinds.specs.Kinds.{rank}
use Rattle.fy_kinds.specs.Orders.{Order}
use Rattle.fy_acts.specs.declared.act.Act.TheVariants.{Kill}
use Rattle.fy_acts.specs.declared.reply.Reply.{Reply}
use Rattle.fy_acts.specs.declared.reply.Reply.TheVariants.{Verdict}
use Rattle.fy_cluster.specs.declared.fault.Fault.{Fault}
use Rattle.fy_cluster.specs.Execution.{Execution, replied}
use Rattle.fy_c.specs.Numbers.{key_number, kind_number, struck_number, rule_number, named_by}
use Rattle.fy_c.specs.Entering.{Applies, status_of}
use Rattle.fy_c.specs.declared.killing.Told.{Told}
use Rattle.fy_c.specs.declared.status.Status.{Status}
use Rattle.fy_c.specs.declared.status.Status.TheVariants.{Argument, Name, Floor}

-- an order as C gives it
pub record Given : Type 0 where
  pub key : ℕ
  pub value : List ℕ
  pub kind : ℕ
  pub floor : ℕ
  pub tear : ℕ

-- the order that is given by numbers
pub record IsOrderOf (given : Given) (order : Order) : Type 0 where
  pub key : given.key ≡ key_number order.target.key
  pub value : given.value ≡ order.target.value
  pub name : IsTrue (is_name given.value)
  pub kind : given.kind ≡ kind_number order.kind
  pub floor : given.floor ≡ kind_number order.floor
  pub tear : given.tear ≡ order.tear

-- the three numbers are those of a key and of two kinds
pub record AreNumbers (given : Given) : Type 0 where
  pub key : Key
  pub kind : Kind
  pub floor : Kind
  pub key_is : given.key ≡ key_number key
  pub kind_is : given.kind ≡ kind_number kind
  pub floor_is : given.floor ≡ kind_number floor

-- why no order is given, the first that holds: a number is of no key or kind, the value is no name,
-- or the floor is above the kind
pub data NoOrder (given : Given) : Status → Type 0 where
  no_key : ((key : Key) → given.key ≢ key_number key) → NoOrder given Argument
  no_kind : ((kind : Kind) → given.kind ≢ kind_number kind) → NoOrder given Argument
  no_floor : ((kind : Kind) → given.floor ≢ kind_number kind) → NoOrder given Argument
  no_name : AreNumbers given → (IsTrue (is_name given.value) → ⊥) → NoOrder given Name
  above : (numbers : AreNumbers given) → IsTrue (is_name given.value) →
      rank numbers.kind < rank numbers.floor → NoOrder given Floor

-- the numbers are those of two kinds, the second no harder than the first
pub record AreKinds (given_kind given_floor : ℕ) (kind floor : Kind) : Type 0 where
  pub kind_is : given_kind ≡ kind_number kind
  pub floor_is : given_floor ≡ kind_number floor
  pub ordered : rank floor ≤ rank kind

-- why they aren't, the first that holds: a number is of no kind, or the floor is above the kind
pub data NoKindAndFloor (given_kind given_floor : ℕ) : Status → Type 0 where
  no_kind : ((kind : Kind) → given_kind ≢ kind_number kind) →
      NoKindAndFloor given_kind given_floor Argument
  no_floor : ((kind : Kind) → given_floor ≢ kind_number kind) →
      NoKindAndFloor given_kind given_floor Argument
  above : (kind floor : Kind) → given_kind ≡ kind_number kind → given_floor ≡ kind_number floor →
      rank kind < rank floor → NoKindAndFloor given_kind given_floor Floor

-- nothing to tell
abbrev pub untold : Told
untold = record { struck = 0; rule = 0; named = 0 }

-- what is told of an answer
abbrev pub told_of : Result Reply Fault → Told
told_of (Ok (Verdict verdict)) = record {
  struck = struck_number verdict.struck;
  rule = rule_number verdict.rule;
  named = named_by verdict.rule;
}
told_of _ = untold

-- the order came to something, and that is what is told
pub record IsKilled (old new : Execution) (by : ℕ) (order : Order) (status : Status) (told : Told)
    : Type 0 where
  pub answer : Result Reply Fault
  pub applies : Applies old new by (Kill order) answer
  pub status_is : status ≡ status_of answer
  pub told_is : told ≡ told_of answer

-- the order came to something, and that is what is told; or none was given, and nothing changed
pub data Kills (old new : Execution) (by : ℕ) (given : Given) (told : Told) (status : Status)
    : Type 0 where
  killed : (order : Order) → IsOrderOf given order → IsKilled old new by order status told →
      Kills old new by given told status
  not_given : NoOrder given status → new ≡ old → told ≡ untold →
      Kills old new by given told status

-- the status and what is told are those of the reply that the order would get now
pub record IsJudged (execution : Execution) (by : ℕ) (order : Order) (status : Status) (told : Told)
    : Type 0 where
  pub status_is : status ≡ status_of (Ok (replied execution by (Kill order)))
  pub told_is : told ≡ told_of (Ok (replied execution by (Kill order)))

-- an order is given, and the reply that it would get now is told; or none is, and why is told
pub data Judges (execution : Execution) (by : ℕ) (given : Given) (told : Told) (status : Status)
    : Type 0 where
  judged : (order : Order) → IsOrderOf given order → IsJudged execution by order status told →
      Judges execution by given told status
  not_given : NoOrder given status → told ≡ untold → Judges execution by given told status
