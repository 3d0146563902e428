-- What each enum of the code says, in 01's values, and back. Definitions only. Assumes nothing.
use Rattle.std.specs.Prelude.{ℕ, Result, Ok, Err}
use Rattle.one_line.specs.declared.OptimalValue.{OptimalValue}
use Rattle.one_line.specs.declared.OptimalValue.TheVariants.{Point, Direction}
use Rattle.one_line.specs.declared.Cause.{Cause as CauseCode}
use Rattle.one_line.specs.declared.Cause.TheVariants as causes
use Rattle.one_line.specs.declared.Ends.{Ends}
use Rattle.one_line.specs.declared.Empty.{Empty}
use Rattle.one_line.specs.declared.AlongLine.{AlongLine}
use Rattle.one_line.specs.declared.AlongLine.TheVariants as along-line
use Rattle.one_line.specs.declared.EndsCrossed.{EndsCrossed}
use Rattle.one_line.specs.OneLine.{Objective, toward, along, Cause, circle, parallel, crossing, Interval, between, empty, Found, at, fails, refuses}

abbrev pub objective_of : OptimalValue → Objective
objective_of (Point p) = toward p
objective_of (Direction d) = along d

abbrev pub cause_of : CauseCode → Cause
cause_of causes.Circle = circle
cause_of (causes.Parallel i) = parallel i
cause_of (causes.Crossing i) = crossing i

-- what one step leaves of an interval, where it has looked at n lines
abbrev pub interval_of : ℕ → Result Ends CauseCode → Interval
interval_of n (Ok ends) = between ends.left ends.right n
interval_of n (Err cause) = empty n (cause_of cause)

-- what n lines leave of it, or the first ones that leave nothing
abbrev pub left_of : ℕ → Result Ends Empty → Interval
left_of n (Ok ends) = between ends.left ends.right n
left_of n (Err e) = empty e.looked (cause_of e.cause)

abbrev pub found_of : Result AlongLine EndsCrossed → Found
found_of (Ok (along-line.At p n)) = at p n
found_of (Ok (along-line.Fails n cause)) = fails n (cause_of cause)
found_of (Err e) = refuses

-- the earlier lines that a one-line solve looked at
abbrev pub looked_of : Result AlongLine EndsCrossed → ℕ
looked_of (Ok (along-line.At p n)) = n
looked_of (Ok (along-line.Fails n cause)) = n
looked_of (Err e) = 0

-- ---- and back: the enum that says a cause, what was found

abbrev pub cause_as : Cause → CauseCode
cause_as circle = causes.Circle
cause_as (parallel i) = causes.Parallel i
cause_as (crossing i) = causes.Crossing i

abbrev pub found_as : Found → Result AlongLine EndsCrossed
found_as (at p n) = Ok (along-line.At p n)
found_as (fails n cause) = Ok (along-line.Fails n (cause_as cause))
found_as refuses = Err (record {})
