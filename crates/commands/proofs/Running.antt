-- Calls that read, one behind another.
use Rattle.commands.proofs.Common.{Answer, Texts, Check, certificate_line, too_large, Concludes, Replies, Runs, EndsReading, Stops, StopsReading, Tells, Stop, ReadFault, OutOfMemory, ◌≡◌, ℕ, ◌<◌, sym, ap, ◌∙◌, subst, arith, refl, Option, Result, Ok, Err, MatchResult, IsErrAnd, OnlyReads, Rose, Files}
use Rattle.commands.specs.declared.reply.Reply.{Reply}
use Rattle.commands.specs.declared.stop.Stop.TheVariants.{Refused}
use Rattle.walk_files.specs.declared.stream_end.StreamEnd.{StreamEnd}
use Rattle.walk_files.specs.declared.stream_end.StreamEnd.TheVariants.{Fault, TooLarge, Cert}
use Rattle.walk_files.specs.declared.stream_end.StreamEnd.TheVariants as ends
use Rattle.commands.specs.declared.refusal.Input.TheVariants as inputs

-- what tells a fault of a text tells no read fault
pub tells_no_fault : (texts : Texts) (stop : Stop) → Tells texts stop → stop ≡ ReadFault → ⊥
tells_no_fault texts (Refused text) h e = cc
tells_no_fault texts ReadFault h e = h
tells_no_fault texts OutOfMemory h e = cc

pub err_no_fault : {V : Type 0} (stop : Stop) → (let result : Result V Stop = Err stop in result ≡ Err ReadFault → ⊥) → stop ≡ ReadFault → ⊥
err_no_fault {V} stop none e = none (ap (λ (s : Stop). let r : Result V Stop = Err s in r) e)

-- where only memory can be wanting, there is no read fault
pub judged_no_fault : {V : Type 0} (result : Result V Stop) (P : V → Type 0) → MatchResult result P (λ stop. stop ≡ OutOfMemory)
    → result ≡ Err ReadFault → ⊥
judged_no_fault (Ok x) P h e = cc
judged_no_fault (Err stop) P h e = let same : stop ≡ ReadFault = cc in cc

pub memory_no_fault : OutOfMemory ≡ ReadFault → ⊥
memory_no_fault e = cc

-- only a read that failed is told as one
read_failed : (end : StreamEnd) (stop : Stop) → StopsReading end stop → stop ≡ ReadFault → end ≡ Fault
read_failed Fault stop h e = refl
read_failed TooLarge stop h e = absurd (tells_no_fault (too_large inputs.Certificate) stop h e)
read_failed (Cert fault) stop h e = absurd (tells_no_fault (certificate_line fault) stop h e)
read_failed ends.OutOfMemory stop h e = cc

-- what holds of a failure holds of what a `?` returns
at_failure : {V E : Type 0} {e : E} (P : Result V E → Type 0) (result : Result V E) → IsErrAnd result (λ f. f ≡ e) → P (Err e) → P result
at_failure P (Ok x) failed h = absurd failed
at_failure {V} {E} P (Err f) failed h = subst (λ (x : E). P (Err x)) (sym failed) h

-- and so a call ends by `?` as what stopped it ends
pub failed_end : {V : Type 0} (P : V → Type 0) (Q : Stop → Type 0) (stop : Stop) (result : Result V Stop) → IsErrAnd result (λ e. e ≡ stop)
    → Q stop → MatchResult result P Q
failed_end P Q stop result failed h = at_failure (λ r. MatchResult r P Q) result failed h

module _ {X : Type 0} {held : X → Option Files} {faults : X → ℕ} where
  -- the second call reads behind the first
  pub only_then : {old mid new : X} → OnlyReads held faults old mid → OnlyReads held faults mid new → OnlyReads held faults old new
  only_then first second =
      record { same_files = second.same_files ∙ first.same_files; never_falls = omega (arith, first.never_falls, second.never_falls) }

  pub only_self : {shelf : X} → OnlyReads held faults shelf shelf
  only_self = record { same_files = refl; never_falls = omega arith }

  -- a fault that rose behind a call rose
  rose_then : {old mid new : X} → OnlyReads held faults old mid → Rose (faults mid) (faults new) → Rose (faults old) (faults new)
  rose_then {old} {mid} {new} first rose = λ below.
      let risen : faults mid < faults new = rose below in omega (arith, first.never_falls, risen)

  -- ---- a call that reads, behind one that did

  module _ {old new : X} {IsEnd : Option Files → Type 0} {V : Type 0} where
    -- what was read is looked at, and that is the end
    pub reads_ended : {result : Result V Stop} → OnlyReads held faults old new → (result ≡ Err ReadFault → ⊥) → IsEnd (held old)
        → EndsReading held faults old new IsEnd result
    reads_ended only no_fault end = record { end = end; fault = λ e. absurd (no_fault e); only_reads = only }

    -- what comes is made of what was read
    pub reads_made : {thing : V} → OnlyReads held faults old new → IsEnd (held old) → EndsReading held faults old new IsEnd (Ok thing)
    reads_made only end = record { end = end; fault = λ e. cc; only_reads = only }

    -- what was read has a fault
    pub reads_faulty : {stop : Stop} → OnlyReads held faults old new → (stop ≡ ReadFault → ⊥) → IsEnd (held old)
        → EndsReading {V = V} held faults old new IsEnd (Err stop)
    reads_faulty {stop} only no_fault end =
        record { end = end; fault = λ e. let same : stop ≡ ReadFault = cc in absurd (no_fault same); only_reads = only }

    -- a call that read behind another was the end
    pub reads_behind : {mid : X} {IsMid : Option Files → Type 0} {result : Result V Stop} → OnlyReads held faults old mid
        → EndsReading held faults mid new IsMid result → IsEnd (held old) → EndsReading held faults old new IsEnd result
    reads_behind first h end =
        record { end = end; fault = λ e. rose_then first (h.fault e); only_reads = only_then first h.only_reads }

    -- it stopped
    pub reads_then : {mid : X} {W : Type 0} {IsMid : Option Files → Type 0} {stop : Stop} → OnlyReads held faults old mid
        → EndsReading {V = W} held faults mid new IsMid (Err stop) → IsEnd (held old)
        → EndsReading {V = V} held faults old new IsEnd (Err stop)
    reads_then {mid} {W} {IsMid} {stop} first h end =
        record {
          end = end;
          fault = λ e.
              let same : stop ≡ ReadFault = cc in
              rose_then first (h.fault (ap (λ (s : Stop). let r : Result W Stop = Err s in r) same));
          only_reads = only_then first h.only_reads;
        }

    -- a certificate that is read in pieces could not be read on
    pub reads_stopped : {mid : X} (end : StreamEnd) (stop : Stop) → OnlyReads held faults old mid → OnlyReads held faults mid new
        → (end ≡ Fault → Rose (faults mid) (faults new)) → StopsReading end stop → IsEnd (held old)
        → EndsReading {V = V} held faults old new IsEnd (Err stop)
    reads_stopped end stop first second rose h ends =
        record {
          end = ends;
          fault = λ e. let same : stop ≡ ReadFault = cc in rose_then first (rose (read_failed end stop h same));
          only_reads = only_then first second;
        }

  -- ---- a command

  module _ {old new : X} {command : Option Files → Check Answer} where
    -- a call that read was the end of a command that looks at some file
    pub runs_read : {mid : X} {IsEnd : Option Files → Type 0} {result : Result Reply Stop} → ((command (held old)).EachFile (λ _. ⊥) → ⊥)
        → OnlyReads held faults old mid → EndsReading held faults mid new IsEnd result → Concludes (command (held old)) result
        → Runs held faults old new command result
    runs_read looks first h end =
        record {
          end = end;
          fault = λ e. rose_then first (h.fault e);
          untouched = λ none. absurd (looks none);
          only_reads = only_then first h.only_reads;
        }

    -- a call that read stopped
    pub runs_stopped : {mid : X} {V : Type 0} {IsEnd : Option Files → Type 0} {stop : Stop} {result : Result Reply Stop}
        → ((command (held old)).EachFile (λ _. ⊥) → ⊥) → IsErrAnd result (λ e. e ≡ stop) → OnlyReads held faults old mid
        → EndsReading {V = V} held faults mid new IsEnd (Err stop) → Stops (command (held old)) stop
        → Runs held faults old new command result
    runs_stopped {mid} {V} {IsEnd} {stop} {result} looks failed first h stops =
        at_failure (Runs held faults old new command) result failed
        (record {
          end = stops;
          fault = λ e.
              let same : stop ≡ ReadFault = cc in
              rose_then first (h.fault (ap (λ (s : Stop). let r : Result V Stop = Err s in r) same));
          untouched = λ none. absurd (looks none);
          only_reads = only_then first h.only_reads;
        })

    -- what was made of what was read is the end, and tells no read fault
    pub runs_judged : {result : Result Reply Stop} → ((command (held old)).EachFile (λ _. ⊥) → ⊥) → OnlyReads held faults old new
        → (result ≡ Err ReadFault → ⊥) → Concludes (command (held old)) result → Runs held faults old new command result
    runs_judged looks only no_fault end =
        record { end = end; fault = λ e. absurd (no_fault e); untouched = λ none. absurd (looks none); only_reads = only }

    -- what was read has a fault, or memory is wanting
    pub runs_faulty : {stop : Stop} {result : Result Reply Stop} → ((command (held old)).EachFile (λ _. ⊥) → ⊥)
        → IsErrAnd result (λ e. e ≡ stop) → OnlyReads held faults old new → (stop ≡ ReadFault → ⊥) → Stops (command (held old)) stop
        → Runs held faults old new command result
    runs_faulty {stop} {result} looks failed only no_fault stops =
        at_failure (Runs held faults old new command) result failed
        (runs_judged looks only (λ e. let same : stop ≡ ReadFault = cc in no_fault same) stops)

    -- there is a reply
    pub runs_replied : {reply : Reply} → ((command (held old)).EachFile (λ _. ⊥) → ⊥) → OnlyReads held faults old new
        → Replies (command (held old)) reply → Runs held faults old new command (Ok reply)
    runs_replied looks only replies = runs_judged looks only (λ e. cc) replies

  -- a command that looks at no file
  pub runs_unread : {shelf : X} {command : Option Files → Check Answer} {result : Result Reply Stop} → (result ≡ Err ReadFault → ⊥)
      → Concludes (command (held shelf)) result → Runs held faults shelf shelf command result
  runs_unread no_fault end =
      record { end = end; fault = λ e. absurd (no_fault e); untouched = λ none. refl; only_reads = only_self }

  -- a refusal before any file is looked at
  pub runs_refused : {shelf : X} {command : Option Files → Check Answer} {stop : Stop} (texts : Texts) → Stops (command (held shelf)) stop
      → Tells texts stop → Runs held faults shelf shelf command (Err stop)
  runs_refused {shelf} {command} {stop} texts stops tells =
      runs_unread (λ e. let same : stop ≡ ReadFault = cc in tells_no_fault texts stop tells same) stops
