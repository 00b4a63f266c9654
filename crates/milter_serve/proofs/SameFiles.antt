-- Files of lists and stamps are the same where what they have is.
use Rattle.std.proofs.Common.{◌≡◌, refl, sym, ap, Bool, Option, None, Some}
use Rattle.std.specs.Prelude.{◌==◌, ◌&&◌, is_some, unwrap_or}
use Rattle.std.specs.Bool.{Decides}
use Rattle.std.specs.Option.{option_eq}
use Rattle.std.specs.Ordering.{int_eq}
use Rattle.std.specs.Str.{bytes_eq}
use Rattle.std.proofs.lemmas.Bool.{true≢false}
use Rattle.std.proofs.lemmas.Bool.Decides.{Decides-and, Decides-eqb, Decides-int_eq, Decides-like}
use Rattle.std.proofs.lemmas.Slice.Eq.{bytes_eq-Decides}
use Rattle.milter_rules.specs.declared.list_file.ListFile.{ListFile}
use Rattle.milter_serve.specs.declared.file_stamp.FileStamp.{FileStamp}
use Rattle.milter_serve.specs.declared.file_stamp.FileTime.{FileTime}

-- ---- files of lists

same_file : (x y : ListFile) → (x.name ≡ y.name) × (x.bytes ≡ y.bytes) → x ≡ y
same_file x y same = λ i. record { name = same.0 i; bytes = same.1 i }

file_parts : (x y : ListFile) → x ≡ y → (x.name ≡ y.name) × (x.bytes ≡ y.bytes)
file_parts x y is = (ap (λ (f : ListFile). f.name) is, ap (λ (f : ListFile). f.bytes) is)

pub file_decides : (x y : ListFile) → Decides (bytes_eq x.name y.name && bytes_eq x.bytes y.bytes) (x ≡ y)
file_decides x y =
    Decides-like (bytes_eq x.name y.name && bytes_eq x.bytes y.bytes) (same_file x y) (file_parts x y)
    (Decides-and (bytes_eq x.name y.name) (bytes_eq x.bytes y.bytes) (bytes_eq-Decides x.name y.name) (bytes_eq-Decides x.bytes y.bytes))

-- ---- stamps

abbrev time_eq : FileTime → FileTime → Bool
time_eq x y = (x.seconds == y.seconds) && int_eq x.nanoseconds y.nanoseconds

same_time : (x y : FileTime) → (x.seconds ≡ y.seconds) × (x.nanoseconds ≡ y.nanoseconds) → x ≡ y
same_time x y same = λ i. record { seconds = same.0 i; nanoseconds = same.1 i }

time_parts : (x y : FileTime) → x ≡ y → (x.seconds ≡ y.seconds) × (x.nanoseconds ≡ y.nanoseconds)
time_parts x y is = (ap (λ (t : FileTime). t.seconds) is, ap (λ (t : FileTime). t.nanoseconds) is)

time_decides : (x y : FileTime) → Decides (time_eq x y) (x ≡ y)
time_decides x y =
    Decides-like (time_eq x y) (same_time x y) (time_parts x y)
    (Decides-and (x.seconds == y.seconds) (int_eq x.nanoseconds y.nanoseconds) (Decides-eqb x.seconds y.seconds) (Decides-int_eq x.nanoseconds y.nanoseconds))

abbrev times_eq : FileStamp → FileStamp → Bool
times_eq x y = time_eq x.written y.written && time_eq x.changed y.changed

abbrev sizes_eq : FileStamp → FileStamp → Bool
sizes_eq x y = (x.size == y.size) && times_eq x y

abbrev numbers_eq : FileStamp → FileStamp → Bool
numbers_eq x y = (x.number == y.number) && sizes_eq x y

abbrev stamp_eq : FileStamp → FileStamp → Bool
stamp_eq x y = (x.device == y.device) && numbers_eq x y

abbrev HasSameParts : FileStamp → FileStamp → Type 0
HasSameParts x y =
    (x.device ≡ y.device)
    × ((x.number ≡ y.number) × ((x.size ≡ y.size) × ((x.written ≡ y.written) × (x.changed ≡ y.changed))))

same_stamp : (x y : FileStamp) → HasSameParts x y → x ≡ y
same_stamp x y same = λ i. record {
  device = same.0 i;
  number = same.1.0 i;
  size = same.1.1.0 i;
  written = same.1.1.1.0 i;
  changed = same.1.1.1.1 i;
}

stamp_parts : (x y : FileStamp) → x ≡ y → HasSameParts x y
stamp_parts x y is =
    let device = ap (λ (s : FileStamp). s.device) is in
    let number = ap (λ (s : FileStamp). s.number) is in
    let size = ap (λ (s : FileStamp). s.size) is in
    let written = ap (λ (s : FileStamp). s.written) is in
    let changed = ap (λ (s : FileStamp). s.changed) is in
    (device, (number, (size, (written, changed))))

stamp_decides : (x y : FileStamp) → Decides (stamp_eq x y) (x ≡ y)
stamp_decides x y =
    let times = Decides-and (time_eq x.written y.written) (time_eq x.changed y.changed) (time_decides x.written y.written) (time_decides x.changed y.changed) in
    let sizes = Decides-and (x.size == y.size) (times_eq x y) (Decides-eqb x.size y.size) times in
    let numbers = Decides-and (x.number == y.number) (sizes_eq x y) (Decides-eqb x.number y.number) sizes in
    let all = Decides-and (x.device == y.device) (numbers_eq x y) (Decides-eqb x.device y.device) numbers in
    Decides-like (stamp_eq x y) (same_stamp x y) (stamp_parts x y) all

-- ---- stamps that may not be there

module _ {A : Type 0} {E : A → A → Bool} (each : (x y : A) → Decides (E x y) (x ≡ y)) where
  option_decides : (x y : Option A) → Decides (option_eq E x y) (x ≡ y)
  option_decides None None = (λ same. refl, λ is. refl)
  option_decides None (Some y) = (λ same. absurd (true≢false (sym same)), λ is. absurd (true≢false (sym (ap is_some is))))
  option_decides (Some x) None = (λ same. absurd (true≢false (sym same)), λ is. absurd (true≢false (ap is_some is)))
  option_decides (Some x) (Some y) = Decides-like (E x y) (ap Some) (ap (λ (o : Option A). unwrap_or o x)) (each x y)

pub found_decides : (x y : Option FileStamp) → Decides (option_eq stamp_eq x y) (x ≡ y)
found_decides = option_decides stamp_decides
