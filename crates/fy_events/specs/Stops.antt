-- why a line gives no answer
use Rattle.fy_events.specs.declared.event.EventFault.{EventFault}
use Rattle.fy_events.specs.declared.event.NoAnswer.{NoAnswer}
use Rattle.fy_events.specs.declared.event.NoAnswer.TheVariants.{Faulty, NoMemory}

-- a fact for the fault of a line; none where an allocation failed
abbrev pub IfFaulty : NoAnswer → (EventFault → Type 0) → Type 0
IfFaulty (Faulty fault) P = P fault
IfFaulty NoMemory P = Unit {0}
