-- Commands that read a surface, then walks of it, and answer what is asked of these.
use Rattle.surface_commands.proofs.Common.{stops_next, stops_second, memory_no_fault, only_then, runs_faulty, runs_replied, runs_stopped, Answer, Check, Passes, ◌>>=◌, EndsReading, Stops, Stop, ReadFault, OutOfMemory, ◌≡◌, ℕ, List, inr, subst, Option, Result, Ok, Err, IsErrAnd, Files, FaceList, surface_in}
use Rattle.commands.specs.Replies.{Replies, Runs}
use Rattle.commands.specs.declared.reply.Reply.{Reply}
use Rattle.surf_io.specs.Calls.{OnlyReads}

-- the surface, then the walks, and then what is asked of them
abbrev pub command : {A : Type 0} (name : List ℕ) (walks_in : Option Files → FaceList → Check A) (next : FaceList → A → Check Answer)
    → Option Files → Check Answer
command name walks_in next files = surface_in files name >>= (λ mesh. walks_in files mesh >>= next mesh)

module _ {X A V : Type 0} {held : X → Option Files} {faults : X → ℕ} {old mid : X} {thing : V} (name : List ℕ) (surface : FaceList)
    (walks_in : Option Files → FaceList → Check A) (next : FaceList → A → Check Answer)
    (read : EndsReading {V = V} held faults old mid (λ files. Passes (surface_in files name) surface) (Ok thing)) where
  walks_stop : (stop : Stop) → Stops (walks_in (held mid) surface) stop → Stops (command name walks_in next (held old)) stop
  walks_stop stop stops =
      stops_second (surface_in (held old) name) (walks_in (held old)) next surface stop read.end
      (subst (λ (files : Option Files). Stops (walks_in files surface) stop) read.only_reads.same_files stops)

  walks_pass : (walks : A) → Passes (walks_in (held mid) surface) walks → Passes (walks_in (held old) surface) walks
  walks_pass walks q = subst (λ (files : Option Files). Passes (walks_in files surface) walks) read.only_reads.same_files q

  -- the walks are refused
  pub runs_refused_walks : {new : X} {W : Type 0} {IsEnd : Option Files → Type 0} {stop : Stop} {result : Result Reply Stop}
      → EndsReading {V = W} held faults mid new IsEnd (Err stop) → IsErrAnd result (λ e. e ≡ stop)
      → Stops (walks_in (held mid) surface) stop
      → Runs held faults old new (command name walks_in next) result
  runs_refused_walks {new} {W} {IsEnd} {stop} h failed stops =
      runs_stopped (λ none. none.0.0.0) failed read.only_reads h (walks_stop stop stops)

  -- they are refused when they have been read
  pub runs_refused_read : {new : X} {stop : Stop} {result : Result Reply Stop} → OnlyReads held faults mid new
      → IsErrAnd result (λ e. e ≡ stop)
      → (stop ≡ ReadFault → ⊥) → Stops (walks_in (held mid) surface) stop → Runs held faults old new (command name walks_in next) result
  runs_refused_read {new} {stop} more failed no_fault stops =
      runs_faulty (λ none. none.0.0.0) failed (only_then read.only_reads more) no_fault (walks_stop stop stops)

  -- what is asked of them is refused
  pub runs_refused_next : {new : X} {stop : Stop} {result : Result Reply Stop} (walks : A) → OnlyReads held faults mid new
      → Passes (walks_in (held mid) surface) walks → IsErrAnd result (λ e. e ≡ stop) → (stop ≡ ReadFault → ⊥)
      → Stops (next surface walks) stop → Runs held faults old new (command name walks_in next) result
  runs_refused_next {new} {stop} walks more q failed no_fault stops =
      runs_faulty (λ none. none.0.0.0) failed (only_then read.only_reads more) no_fault
      (stops_next (surface_in (held old) name) (λ mesh. walks_in (held old) mesh >>= next mesh) surface stop read.end
      (stops_next (walks_in (held old) surface) (next surface) walks stop (walks_pass walks q) stops))

  -- memory is wanting behind them
  pub runs_wanting : {new : X} {result : Result Reply Stop} → OnlyReads held faults mid new → IsErrAnd result (λ e. e ≡ OutOfMemory)
      → Runs held faults old new (command name walks_in next) result
  runs_wanting more failed = runs_faulty (λ none. none.0.0.0) failed (only_then read.only_reads more) memory_no_fault tt

  -- there is a reply to what is asked of them
  pub runs_asked : {new : X} {reply : Reply} (walks : A) → OnlyReads held faults mid new → Passes (walks_in (held mid) surface) walks
      → Replies (next surface walks) reply → Runs held faults old new (command name walks_in next) (Ok reply)
  runs_asked walks more q h =
      runs_replied (λ none. none.0.0.0) (only_then read.only_reads more)
      (record {
        answer = h.answer;
        passes = inr (surface, read.end, inr (walks, walks_pass walks q, h.passes));
        is_answer = h.is_answer;
      })
