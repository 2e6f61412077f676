-- From a file, and the answers of the assembler, to the answers of the program.
use Rattle.std.proofs.Common.{◌≡◌, ℕ, ◌+◌, ◌<◌, List, length, take, Option, Some, None, Err, refl, sym, ap, subst, ◌∙◌, arith}
use Rattle.std.specs.Prelude.{IfSome}
use Rattle.std.proofs.lemmas.Bool.{lt-ltb}
use Rattle.std.proofs.lemmas.List.{take_all}
use Rattle.mon_types.specs.Shape.{Shape}
use Rattle.mon_types.specs.declared.image.Image.{Image}
use Rattle.image_read.specs.Image.{image_text}
use Rattle.sm_ports.specs.Contents.{IsFile}
use Rattle.sm_ports.specs.declared.failed.ReadError.{ReadError}
use Rattle.sm_ports.specs.declared.failed.ReadError.TheVariants as reads
use Rattle.rv_asm.specs.Grammar.{IsText}
use Rattle.rv_asm.specs.Reading.{most_bytes, statements_of}
use Rattle.rv_asm.specs.declared.fault.AsmFault.{AsmFault}
use Rattle.rv_asm.specs.declared.fault.AsmKind.TheVariants as kinds
use Rattle.rv_asm.specs.declared.fault.AsmError.{AsmError}
use Rattle.rv_asm.specs.declared.fault.AsmError.TheVariants as errors
use Rattle.rv_asm.specs.Answers.{Gives, Faults}
use Rattle.sanctum.specs.Commands.{Pack}
use Rattle.sanctum.specs.Packing.{word_limit, packed_image, version_for, IsPacked, HasFirstAsmFault}
use Rattle.sanctum.specs.Sources.{Files}
use Rattle.sanctum.specs.Refused.{refused_read, refused_asm}
use Rattle.sanctum.specs.Causes.{IsReason}
use Rattle.reader_answers.proofs.Cut.{cut_same, whole_file}
use Rattle.sanctum.proofs.Told.{one_of}

-- ---- A file is read up to one byte past the limit, which tells as much of a text as the whole file.

long_text : (limit : ℕ) (bytes : List ℕ) → most_bytes < length bytes → statements_of limit bytes ≡ Err (record { line = 0; kind = kinds.TooLong })
unfolding statements_of
long_text limit bytes lt = rw (lt-ltb most_bytes (length bytes) lt) refl

cut_text : (limit : ℕ) (bytes : List ℕ) → statements_of limit (take (most_bytes + 1) bytes) ≡ statements_of limit bytes
cut_text limit bytes = cut_same (statements_of limit) (Err (record { line = 0; kind = kinds.TooLong })) most_bytes bytes (long_text limit)

cut_fault : (limit : ℕ) (bytes : List ℕ) (fault : AsmFault) → HasFirstAsmFault limit (take (most_bytes + 1) bytes) fault → HasFirstAsmFault limit bytes fault
cut_fault limit bytes fault h = record {
  first = sym (cut_text limit bytes) ∙ h.first;
  outside = λ words is. h.outside words (subst (λ (text : List ℕ). IsText limit text words) (sym (take_all (most_bytes + 1) bytes (omega (arith, is.within)))) is);
}

-- words that were read are those of the file
pub file_words : (told : Option (List ℕ)) (limit : ℕ) (read words : List ℕ) → IsFile told (most_bytes + 1) read → IsText limit read words → IfSome told (λ bytes. IsText limit bytes words)
file_words None limit read words f is = tt
file_words (Some bytes) limit read words f is =
    let cut : IsText limit (take (most_bytes + 1) bytes) words = subst (λ (text : List ℕ). IsText limit text words) f is in
    subst (λ (text : List ℕ). IsText limit text words) (whole_file most_bytes bytes cut.within) cut

file_fault : (told : Option (List ℕ)) (limit : ℕ) (read : List ℕ) (fault : AsmFault) → IsFile told (most_bytes + 1) read → HasFirstAsmFault limit read fault → IfSome told (λ bytes. HasFirstAsmFault limit bytes fault)
file_fault None limit read fault f h = tt
file_fault (Some bytes) limit read fault f h = cut_fault limit bytes fault (subst (λ (text : List ℕ). HasFirstAsmFault limit text fault) f h)

-- ---- refusals

-- a file that was not read is a reason
pub pack_unread : (files : Files) (rose : List ℕ → Type 0) (name : List ℕ) (shape : Shape) (error : ReadError) → (error ≡ reads.Failed → rose name) → IsReason (Pack name shape) files rose (refused_read error)
pack_unread files rose name shape reads.Failed on_read = one_of rose name (on_read refl)
pack_unread files rose name shape reads.Memory on_read = tt

-- a text that was not assembled is a reason
fault_is_reason : (files : Files) (rose : List ℕ → Type 0) (name : List ℕ) (shape : Shape) (read : List ℕ) (error : AsmError) → IsFile (files name) (most_bytes + 1) read
    → Faults {X = List ℕ} (Err error) (statements_of (word_limit shape) read) → ((words : List ℕ) → IsText (word_limit shape) read words → Gives (Err error) words) → IsReason (Pack name shape) files rose (refused_asm error)
fault_is_reason files rose name shape read (errors.Fault fault) f exact only = file_fault (files name) (word_limit shape) read fault f (record { first = exact; outside = λ words is. only words is })
fault_is_reason files rose name shape read errors.Memory f exact only = tt

-- what the assembler said of a text
pub record IsUnpacked (limit : ℕ) (read : List ℕ) (error : AsmError) : Type 0 where
  pub exact : Faults {X = List ℕ} (Err error) (statements_of limit read)
  pub only : (words : List ℕ) → IsText limit read words → Gives (Err error) words

pub pack_refused : (files : Files) (rose : List ℕ → Type 0) (name : List ℕ) (shape : Shape) (limit : ℕ) (read : List ℕ) (error : AsmError) → limit ≡ word_limit shape → IsFile (files name) (most_bytes + 1) read → IsUnpacked limit read error
    → IsReason (Pack name shape) files rose (refused_asm error)
pack_refused files rose name shape limit read error same f u =
    let v = subst (λ (n : ℕ). IsUnpacked n read error) same u in fault_is_reason files rose name shape read error f v.exact v.only

-- ---- the image

pub pack_served : (told : Option (List ℕ)) (shape : Shape) (limit : ℕ) (read words text : List ℕ) (image : Image) → limit ≡ word_limit shape → IsFile told (most_bytes + 1) read → IsText limit read words → image ≡ packed_image shape words
    → text ≡ image_text (version_for image.config) image → IsPacked shape told text
pack_served told shape limit read words text image same f is made written = record {
  words = words;
  read = file_words told (word_limit shape) read words f (subst (λ (n : ℕ). IsText n read words) same is);
  packed = written ∙ ap (λ (i : Image). image_text (version_for i.config) i) made;
}
