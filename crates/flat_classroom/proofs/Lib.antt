-- What `flat_desk_answer` gives is each call's own answer in numbers.
pub mod Laws
