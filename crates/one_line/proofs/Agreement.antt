-- Enums of the code there and back: what one says can be turned back, so two answers that one promise allows are the
-- same. Assumes nothing.
use mathlib.Core.Path.{◌≡◌, refl}
use Rattle.std.specs.Prelude.{Result, Ok, Err}
use Rattle.arithmetic.proofs.Agree.{agree-read}
use Rattle.one_line.specs.declared.Cause.{Cause as CauseCode}
use Rattle.one_line.specs.declared.Cause.TheVariants as causes
use Rattle.one_line.specs.declared.AlongLine.{AlongLine}
use Rattle.one_line.specs.declared.AlongLine.TheVariants as along-line
use Rattle.one_line.specs.declared.EndsCrossed.{EndsCrossed}
use Rattle.one_line.specs.OneLine.{Cause, circle, parallel, crossing, Found}
use Rattle.one_line.specs.Read.{cause_of, cause_as, found_of, found_as}

pub cause-back : (c : CauseCode) → cause_as (cause_of c) ≡ c
cause-back causes.Circle = refl
cause-back (causes.Parallel i) = refl
cause-back (causes.Crossing i) = refl

pub cause-there : (c : Cause) → cause_of (cause_as c) ≡ c
cause-there circle = refl
cause-there (parallel i) = refl
cause-there (crossing i) = refl

found_back : (a : Result AlongLine EndsCrossed) → found_as (found_of a) ≡ a
found_back (Ok (along-line.At p n)) = refl
found_back (Ok (along-line.Fails n cause)) = rw (cause-back cause)
found_back (Err e) = refl

pub founds-agree : {one other : Result AlongLine EndsCrossed} {promised : Found} → found_of one ≡ promised → found_of other ≡ promised → one ≡ other
founds-agree = agree-read found_of found_as found_back
