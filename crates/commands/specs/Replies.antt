-- What is written as the answer to a command.
use Rattle.std.specs.Prelude.{◌≡◌, ℕ, List, Option, Result, Err, MatchResult}
use Rattle.surf_io.specs.Calls.{OnlyReads}
use Rattle.surf_io.specs.Faults.{Rose}
use Rattle.surf_io.specs.Files.{Files}
use Rattle.commands.specs.Answers.{Answer}
use Rattle.commands.specs.Checks.{Check, Pass, Passes}
use Rattle.commands.specs.Outcomes.{IsAnswerOf}
use Rattle.commands.specs.Stops.{Stops, bytes_of}
use Rattle.commands.specs.declared.reply.Reply.{Reply}
use Rattle.commands.specs.declared.reply.Reply.TheVariants as replies
use Rattle.commands.specs.declared.status.Status.{Status}
use Rattle.commands.specs.declared.status.Status.TheVariants.{Yes, No, Refused}
use Rattle.commands.specs.declared.stop.Stop.{Stop}
use Rattle.commands.specs.declared.stop.Stop.TheVariants.{ReadFault}

-- the text of a reply
abbrev pub reply_text : Reply → List ℕ
reply_text (replies.Yes text) = bytes_of text
reply_text (replies.No text) = bytes_of text
reply_text (replies.Refused text) = bytes_of text

-- the status behind a reply
abbrev pub reply_status : Reply → Status
reply_status (replies.Yes text) = Yes
reply_status (replies.No text) = No
reply_status (replies.Refused text) = Refused

-- the reply gives the answer
abbrev pub IsReplyTo : Answer → Reply → Type 0
IsReplyTo answer reply = IsAnswerOf (Pass answer) (reply_status reply) (reply_text reply)

-- the reply is to an answer that the check may pass
pub record Replies (check : Check Answer) (reply : Reply) : Type 0 where
  pub answer : Answer
  pub passes : Passes check answer
  pub is_answer : IsReplyTo answer reply

-- there is a reply to an answer that the check may pass, or what stops it
abbrev pub Concludes : Check Answer → Result Reply Stop → Type 0
Concludes check result = MatchResult result (Replies check) (Stops check)

-- A command ended as its check, where the files are these: with the reply to an answer that may pass, or with what stops the check. A read
-- fault is told only where the count of faults rose; where the check looks at no file, the shelf is as it was; and it was only read.
pub record Runs {X : Type 0} (held : X → Option Files) (faults : X → ℕ) (old new : X) (command : Option Files → Check Answer)
    (result : Result Reply Stop) : Type 0 where
  pub end : Concludes (command (held old)) result
  pub fault : result ≡ Err ReadFault → Rose (faults old) (faults new)
  pub untouched : (command (held old)).EachFile (λ _. ⊥) → new ≡ old
  pub only_reads : OnlyReads held faults old new
